use Rattle.std.proofs.Common.{◌≡◌, ◌<◌, ℕ, ◌+◌, ◌++◌, ◌∷◌, [], List, Option, None, length, true, refl, sym, ap, ◌∙◌, append_assoc, arith}
use Rattle.std.proofs.lemmas.List.{length_push}
use Rattle.std.specs.Prelude.{is_some}
use Rattle.std.specs.List.{count_by}
use Rattle.std.specs.Vec.Iter.{into_iter_items}
use Rattle.stack_steps.specs.declared.prepared.PreparedTable.{PreparedTable}
use Rattle.stack_steps.specs.AddedModule.{with_tables}
use Rattle.stack_steps.proofs.Making.{kept_by, none_kept, none_of, not_past, no_more_by, one_more, shorter, skips_by}
use Rattle.stack_steps.proofs.prepared.keep.Goals as goal
use Rattle.stack_steps.proofs.prepared.keep.Goals.{then-is_some, else-is_some}

pub loop-table-init : goal.loop-table-init
loop-table-init c = (refl, search, sym (none_kept c.args.added.now), refl, refl)

pub overflow_add-count : goal.overflow_add-count
overflow_add-count c =
    let at = c.loop-table in
    let x = c.in-Some.table in
    let steps : into_iter_items at.table-iterator ≡ x ∷ into_iter_items c.next.new.self = c.in-Some.ensures.steps.0 in
    let whole : at.yielded ++ x ∷ into_iter_items c.next.new.self ≡ c.args.made.items = rw (← steps) at.invariant.0 ∙ c.into_iter-table-iterator.ensures.into_iter_gives.0 in
    let some : is_some x ≡ true = sym c.is_some.ensures ∙ c.if-is_some.true in
    let le = not_past at.yielded (into_iter_items c.next.new.self) x some in
    let few = c.requires.few in
    let count = at.invariant.3 in
    let same = ap (λ (l : List (Option PreparedTable)). count_by is_some l) whole in
    omega arith

pub loop-table-preserved-after-is_some-2 : goal.loop-table-preserved-after-is_some-2
loop-table-preserved-after-is_some-2 c =
    let at = c.loop-table in
    let x = c.in-Some.table in
    let rest = into_iter_items c.next.new.self in
    let steps : into_iter_items at.table-iterator ≡ x ∷ into_iter_items c.next.new.self = c.in-Some.ensures.steps.0 in
    let kept : (c.if-is_some.added ≡ with_tables c.args.added.now (at.yielded ++ x ∷ [])) × (c.if-is_some.count ≡ count_by is_some (at.yielded ++ x ∷ [])) = elim c.if-is_some.branch [
      | then-is_some w ↦
          let some : is_some x ≡ true = sym c.is_some.ensures ∙ w.if-is_some.true in
          let whole : at.yielded ++ x ∷ rest ≡ c.args.made.items = rw (← steps) at.invariant.0 ∙ c.into_iter-table-iterator.ensures.into_iter_gives.0 in
          let lt = shorter at.yielded rest x in
          let all = ap (λ (l : List (Option PreparedTable)). length l) whole in
          let each = c.requires.each in
          let within : length at.yielded < length c.args.added.now = omega arith in (
            w.added-is ∙ kept_by c.args.added.now at.added at.yielded x at.place w.index-added-place.result at.invariant.2 at.invariant.4 within some,
            w.count-is ∙ ap (λ (n : ℕ). n + 1) at.invariant.3 ∙ sym (one_more at.yielded x some),
          )
      | else-is_some w ↦
          let none : x ≡ None = none_of x (sym c.is_some.ensures ∙ w.if-is_some.false) in
          (w.added-is ∙ at.invariant.2 ∙ skips_by c.args.added.now at.yielded x none, w.count-is ∙ at.invariant.3 ∙ no_more_by at.yielded x none)
    ] in (
      append_assoc at.yielded (x ∷ []) rest ∙ rw (← steps) at.invariant.0,
      let was = at.invariant.1 in let gone = c.in-Some.ensures.steps.1 in let short = ap length steps in omega arith,
      kept.0,
      kept.1,
      let n = at.invariant.4 in let p = length_push at.yielded x in omega arith,
    )

pub loop-table-preserved : goal.loop-table-preserved
loop-table-preserved c =
    let at = c.loop-table in
    let x = c.in-Some.table in
    let rest = into_iter_items c.next.new.self in
    let steps : into_iter_items at.table-iterator ≡ x ∷ into_iter_items c.next.new.self = c.in-Some.ensures.steps.0 in
    let kept : (c.if-is_some.added ≡ with_tables c.args.added.now (at.yielded ++ x ∷ [])) × (c.if-is_some.count ≡ count_by is_some (at.yielded ++ x ∷ [])) = elim c.if-is_some.branch [
      | then-is_some w ↦
          let some : is_some x ≡ true = sym c.is_some.ensures ∙ w.if-is_some.true in
          let whole : at.yielded ++ x ∷ rest ≡ c.args.made.items = rw (← steps) at.invariant.0 ∙ c.into_iter-table-iterator.ensures.into_iter_gives.0 in
          let lt = shorter at.yielded rest x in
          let all = ap (λ (l : List (Option PreparedTable)). length l) whole in
          let each = c.requires.each in
          let within : length at.yielded < length c.args.added.now = omega arith in (
            w.added-is ∙ kept_by c.args.added.now at.added at.yielded x at.place w.index-added-place.result at.invariant.2 at.invariant.4 within some,
            w.count-is ∙ ap (λ (n : ℕ). n + 1) at.invariant.3 ∙ sym (one_more at.yielded x some),
          )
      | else-is_some w ↦
          let none : x ≡ None = none_of x (sym c.is_some.ensures ∙ w.if-is_some.false) in
          (w.added-is ∙ at.invariant.2 ∙ skips_by c.args.added.now at.yielded x none, w.count-is ∙ at.invariant.3 ∙ no_more_by at.yielded x none)
    ] in (
      append_assoc at.yielded (x ∷ []) rest ∙ rw (← steps) at.invariant.0,
      let was = at.invariant.1 in let gone = c.in-Some.ensures.steps.1 in let short = ap length steps in omega arith,
      kept.0,
      kept.1,
      let n = at.invariant.4 in let p = length_push at.yielded x in omega arith,
    )
