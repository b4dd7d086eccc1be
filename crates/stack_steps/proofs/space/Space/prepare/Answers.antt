use Rattle.std.proofs.Common.{◌≡◌, ◌++◌, List, length, map, take, drop, sym, ap, subst, ◌∙◌, arith}
use Rattle.memory_image.specs.Image.{Span}
use Rattle.stack_steps.specs.declared.space.AddedModule.{AddedModule}
use Rattle.stack_steps.specs.declared.space.Module.{Module}
use Rattle.stack_steps.specs.AddedModule.{IsSpace, added_of, with_tables}
use Rattle.stack_steps.specs.Modules.{Added, SpaceValue, modules_in}
use Rattle.stack_steps.specs.Preparing.{Prepares, with_indexes}
use Rattle.stack_steps.proofs.Making.{added_made, all_replaced, count_made, index_made, length_kept, made_few, made_length, made_make, space_made}
use Rattle.stack_steps.proofs.space.Space.prepare.Goals as goal

abbrev beside : List Span → List Module → List Added → SpaceValue
beside image modules added = record { image = image; modules = modules; added = added }

pub keep-count-requires-clause-each : goal.keep-count-requires-clause-each
keep-count-requires-clause-each c =
    let same = c.deref_mut.ensures.value in
    let was = c.deref.ensures.value in
    let n = made_length c.self.inside.image c.self.inside.left c.in_ok-made.left c.deref.result.now c.in_ok-made.made.items c.in_ok-made.ensures in
    n ∙ ap (λ (l : List AddedModule). length l) (was ∙ sym same)

pub keep-count-requires-clause-few : goal.keep-count-requires-clause-few
keep-count-requires-clause-few c =
    let few = made_few c.self.inside.image c.self.inside.left c.in_ok-made.left c.deref.result.now c.in_ok-made.made.items c.in_ok-made.ensures in
    let rows = c.self.invariant.rows in
    omega arith

pub invariant_of-self : goal.invariant_of-self
invariant_of-self c =
    let hs = c.self.inside.added.items in
    let made = c.in_ok-made.made.items in
    let was : c.deref.result.now ≡ hs = c.deref.ensures.value in
    let same : c.deref_mut.result.now ≡ hs = c.deref_mut.ensures.value in
    let are = rw was at c.in_ok-made.ensures in
    let new : c.keep-count.new.added ≡ with_tables hs made = c.keep-count.ensures.tables ∙ ap (λ (l : List AddedModule). with_tables l made) same in
    let n = length_kept hs made in
    let len = c.deref_mut.ensures.len in
    let all = ap (λ (l : List AddedModule). length l) new in
    let full = ap (λ (l : List AddedModule). length l) same in
    let replaced : take c.self.inside.added.len (c.keep-count.new.added ++ drop (length c.keep-count.new.added) hs) ≡ c.keep-count.new.added = all_replaced c.self.inside.added.len c.keep-count.new.added hs (omega arith) (omega arith) in
    subst (λ (l : List AddedModule). IsSpace c.self.inside.image c.self.inside.modules.entries l c.in_ok-made.left) (sym (replaced ∙ new))
    (space_made c.self.inside.image c.self.inside.modules.entries hs c.self.inside.left c.in_ok-made.left made c.self.invariant are)

pub returns-clause-prepares : goal.returns-clause-prepares
returns-clause-prepares c =
    let hs = c.self.inside.added.items in
    let made = c.in_ok-made.made.items in
    let was : c.deref.result.now ≡ hs = c.deref.ensures.value in
    let same : c.deref_mut.result.now ≡ hs = c.deref_mut.ensures.value in
    let are = rw was at c.in_ok-made.ensures in
    let new : c.keep-count.new.added ≡ with_tables hs made = c.keep-count.ensures.tables ∙ ap (λ (l : List AddedModule). with_tables l made) same in
    let n = length_kept hs made in
    let len = c.deref_mut.ensures.len in
    let all = ap (λ (l : List AddedModule). length l) new in
    let full = ap (λ (l : List AddedModule). length l) same in
    let replaced : take c.self.inside.added.len (c.keep-count.new.added ++ drop (length c.keep-count.new.added) hs) ≡ c.keep-count.new.added = all_replaced c.self.inside.added.len c.keep-count.new.added hs (omega arith) (omega arith) in
    let now : map added_of (take c.self.inside.added.len (c.keep-count.new.added ++ drop (length c.keep-count.new.added) hs)) ≡ with_indexes (map added_of hs) (map index_made made) = ap (map added_of) (replaced ∙ new) ∙ added_made hs made in
    let rows = c.self.invariant.rows in
    let rules = c.self.invariant.rules in
    let make = made_make c.self.inside.image c.self.inside.left c.in_ok-made.left hs made are in
    let make' = rw (rows, rules) at make in
    subst (λ (v : SpaceValue). Prepares v c.keep-count.result (beside c.self.inside.image (modules_in c.self.inside.modules.entries) (map added_of (take c.self.inside.added.len (c.keep-count.new.added ++ drop (length c.keep-count.new.added) hs))))) c.self.view_is
    (record {
      made = map index_made made;
      rows_after = c.in_ok-made.left.rows;
      rules_after = c.in_ok-made.left.rules;
      make = make';
      counted = c.keep-count.ensures.count ∙ count_made made;
      is = ap (beside c.self.inside.image (modules_in c.self.inside.modules.entries)) now;
    })
