use Rattle.std.proofs.Common.{◌≡◌, true, length, Some, refl, arith}
use Rattle.std.specs.Prelude.{nat_le}
use Rattle.std.proofs.lemmas.Bool.Decides.{nat_tests}
use Rattle.std.proofs.lemmas.Grind.{common_steps}
use Rattle.serde_json.specs.View.{items_view}
use Rattle.stack_snapshot.specs.Sampled.{sample_list}
use Rattle.stack_snapshot.proofs.Each.{few_more}
use Rattle.stack_snapshot.proofs.sampled.sample_list.Goals as goal

pub loop-item-preserved : goal.loop-item-preserved
loop-item-preserved c = record { read = grind (arith, common_steps); few = few_more c.add.result c.in_ok-add.field-0 c.loop-item.samples c.add.new.self _ c.in_ok-add.was c.if-not-branch.false c.add.ensures.added c.add.ensures.full c.loop-item.invariant.few }

pub returns : goal.returns
returns c =
    let all : sample_list (items_view c.args.items.now) ≡ Some c.loop-item.samples = grind (arith, common_steps) in
    let held = c.loop-item.invariant.few in
    let few : nat_le (length c.loop-item.samples) 65536 ≡ true = grind (arith, nat_tests) in
    rw (all, few) refl
