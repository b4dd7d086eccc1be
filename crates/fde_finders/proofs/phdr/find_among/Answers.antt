use Rattle.fde_finders.specs.FoundViews.{found_fde_of}
use Rattle.fde_finders.specs.ProgramHeaders.{FindsInObject}
use Rattle.fde_finders.proofs.InTurn.{passed, found, ended}
use Rattle.fde_finders.proofs.phdr.find_among.Goals as goal

pub returns-in-Some : goal.returns-in-Some
returns-in-Some g c =
    let t = c.in-Some.ensures.ticks in
    found (FindsInObject c.args.image.now c.args.pc) c.args.objects.now c.loop-object.object-index c.args.steps.now.number c.loop-object.steps.number c.find_in_object.new.steps.number t.0 c.object-item.result (found_fde_of c.in-Some.found) c.loop-object.invariant c.loop-object-test.true c.object-item.is (c.in-Some.ensures.found, t.2) t.1

pub loop-object-preserved : goal.loop-object-preserved
loop-object-preserved g c =
    let t = c.in_default.ensures.ticks in
    passed (FindsInObject c.args.image.now c.args.pc) c.args.objects.now c.loop-object.object-index c.args.steps.now.number c.loop-object.steps.number c.find_in_object.new.steps.number t.0 c.object-item.result c.loop-object.invariant c.loop-object-test.true c.object-item.is (c.in_default.ensures.found, t.2) t.1

pub returns : goal.returns
returns g c = ended (FindsInObject c.args.image.now c.args.pc) c.args.objects.now c.loop-object.object-index c.args.steps.now.number c.loop-object.steps.number c.loop-object.invariant c.loop-object-test.false
