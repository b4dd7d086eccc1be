use Rattle.std.proofs.Common.{◌≡◌, length, sym, ap, ◌∙◌, arith}
use Rattle.std.specs.List.{insert}
use Rattle.frame_rows.proofs.Shifted.{carried_on, carried_last}
use Rattle.frame_rows.proofs.rules.shift_in.Goals as goal

pub loop-i-preserved : goal.loop-i-preserved
loop-i-preserved c =
    let long = c.loop-i.auto.entries in
    let test = c.loop-i-test.true in
    carried_on c.loop-i.entries c.loop-i.i c.loop-i.carried _ (omega arith) ∙ c.loop-i.invariant

pub returns : goal.returns
returns c =
    let long = c.loop-i.auto.entries in
    let test = c.loop-i-test.false in
    let low = c.loop-i.auto in
    let end : c.loop-i.i ≡ length c.loop-i.entries = omega arith in
    sym c.loop-i.invariant ∙ ap (λ i. insert c.loop-i.entries i c.loop-i.carried) end ∙ carried_last c.loop-i.entries c.loop-i.carried
