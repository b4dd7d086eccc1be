use Rattle.std.proofs.Common.{◌≤◌, ◌++◌, [], ℕ, Option, sym, ap, subst, ◌∙◌, append-nil, append_assoc, arith}
use Rattle.std.specs.Prelude.{MatchOption}
use Rattle.std.specs.Option.{option_to_list}
use Rattle.encoded_pointers.specs.PointerViews.{bases_of}
use Rattle.eh_frame.specs.EntryViews.{fde_of}
use Rattle.eh_frame.specs.Walked.{due_row}
use Rattle.frame_rows.specs.Walks.{IsBefore}
use Rattle.fact_checks.specs.ClaimViews.{claim_of}
use Rattle.fact_checks.proofs.Spans.{ends_later, ends_there, has_reached, more_differences, no_differences}
use Rattle.fact_checks.proofs.stretches.add_differences.Goals as goal

pub loop-pc-init : goal.loop-pc-init
loop-pc-init c =
    let low = c.requires.start in
    let some = c.requires.some in (
      c.requires.row,
      omega (arith, low, some),
      [],
      sym (append-nil _),
      no_differences (bases_of c.args.bases.now) (fde_of c.args.fde.now) c.args.index (claim_of c.args.claim.now) c.args.start,
    )

pub loop-pc-preserved-then-eq : goal.loop-pc-preserved-then-eq
loop-pc-preserved-then-eq c =
    let bases = bases_of c.args.bases.now in
    let fde = fde_of c.args.fde.now in
    let inv = c.loop-pc.invariant in
    let pc = c.loop-pc.pc in
    let next = c.row_end-next.result in
    let ahead = c.row_end-next.ensures.ahead pc c.loop-pc-test.true inv.0.before in
    let found = c.difference_between.ensures bases fde inv.0 ahead c.row_end-next.ensures.row in
    let end = sym c.end.ensures.end ∙ ends_there c.end.result next (sym c.eq.ensures ∙ c.if-eq.true) in (
      has_reached bases fde c.go_on.new.walk next (c.go_on.ensures inv.0.from next (due_row bases fde) inv.0.walking end),
      c.row_end-next.ensures.limited,
      inv.2 ++ option_to_list c.difference_between.result,
      c.in_ok-put.ensures ∙ ap (λ l. l ++ option_to_list c.difference_between.result) inv.3 ∙ append_assoc _ inv.2 (option_to_list c.difference_between.result),
      more_differences bases fde c.args.index (claim_of c.args.claim.now) c.args.start pc next inv.2 (option_to_list c.difference_between.result) (omega (arith, ahead)) inv.4 found,
    )

pub loop-pc-preserved : goal.loop-pc-preserved
loop-pc-preserved c =
    let bases = bases_of c.args.bases.now in
    let fde = fde_of c.args.fde.now in
    let inv = c.loop-pc.invariant in
    let pc = c.loop-pc.pc in
    let next = c.row_end-next.result in
    let ahead = c.row_end-next.ensures.ahead pc c.loop-pc-test.true inv.0.before in
    let reached = inv.0.reached in
    let found = c.difference_between.ensures bases fde inv.0 ahead c.row_end-next.ensures.row in (
      record {
        from = inv.0.from;
        walking = inv.0.walking;
        reached = omega (arith, ahead, reached);
        before = subst (IsBefore next) c.end.ensures.end (ends_later c.end.result next (subst (λ (e : Option ℕ). MatchOption e (Unit {0}) (λ x. next ≤ x)) (sym c.end.ensures.end) c.row_end-next.ensures.row) (sym c.eq.ensures ∙ c.if-eq.false));
      },
      c.row_end-next.ensures.limited,
      inv.2 ++ option_to_list c.difference_between.result,
      c.in_ok-put.ensures ∙ ap (λ l. l ++ option_to_list c.difference_between.result) inv.3 ∙ append_assoc _ inv.2 (option_to_list c.difference_between.result),
      more_differences bases fde c.args.index (claim_of c.args.claim.now) c.args.start pc next inv.2 (option_to_list c.difference_between.result) (omega (arith, ahead)) inv.4 found,
    )

pub loop-pc-smaller : goal.loop-pc-smaller
loop-pc-smaller c =
    let ahead = c.row_end-next.ensures.ahead c.loop-pc.pc c.loop-pc-test.true c.loop-pc.invariant.0.before in
    let within = c.row_end-next.ensures.limited in
    omega (arith, ahead, within)
