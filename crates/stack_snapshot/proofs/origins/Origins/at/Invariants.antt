use Rattle.std.proofs.Common.{◌≡◌, drop}
use Rattle.stack_snapshot.specs.Origins.{origin_at}
use Rattle.stack_snapshot.proofs.origins.Origins.at.Given as goal

abbrev pub invariant-loop-origin : goal.invariant-loop-origin
invariant-loop-origin l = origin_at (drop l.origin-index l.self) l.address ≡ origin_at l.self l.address
