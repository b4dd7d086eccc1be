use Rattle.std.proofs.Common.{◌+◌, Some, map, ap, sym, ◌∙◌, option_map, arith}
use Rattle.fact_checks.specs.ClaimViews.{claim_of}
use Rattle.fact_checks.specs.InOrder.{first_out_of_order}
use Rattle.fact_checks.proofs.Left.{out_here, out_later, place_first, place_past, unread}
use Rattle.fact_checks.proofs.order.first_out_of_order.Goals as goal

pub loop-i-init : goal.loop-i-init
loop-i-init c = place_first (first_out_of_order 0 (map claim_of c.args.claims.now))

pub returns-then-not-is_in_order : goal.returns-then-not-is_in_order
returns-then-not-is_in_order c =
    let xs = c.args.claims.now in
    let i = c.loop-i.i in
    let here = out_here claim_of xs i unread c.loop-i-test.true c.loop-i.end (sym c.is_in_order.ensures ∙ c.if-not-is_in_order.true) in
    ap Some (omega arith) ∙ (sym (ap (option_map (λ j. i + j)) here) ∙ c.loop-i.invariant)

pub loop-i-preserved : goal.loop-i-preserved
loop-i-preserved c =
    let xs = c.args.claims.now in
    let i = c.loop-i.i in
    let later = out_later claim_of xs i unread c.loop-i-test.true c.loop-i.end (sym c.is_in_order.ensures ∙ c.if-not-is_in_order.false) in
    sym (place_past i _) ∙ (sym (ap (option_map (λ j. i + j)) later) ∙ c.loop-i.invariant)
