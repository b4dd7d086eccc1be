use Rattle.stack_snapshot.proofs.FileNames.{named_from}
use Rattle.stack_snapshot.proofs.origins.file_name.Goals as goal

pub returns-then-path-place-eq47 : goal.returns-then-path-place-eq47
returns-then-path-place-eq47 c = named_from c.args.path.now c.loop-place.place c.loop-place-test.true c.loop-place.auto.place c.if-path-place-eq47.true c.loop-place.invariant
