use Rattle.std.proofs.Common.{◌≡◌, List, ℕ, drop}
use Rattle.stack_snapshot.specs.Origins.{after_last}
use Rattle.stack_snapshot.proofs.origins.file_name.Given as goal

-- no slash is there from the place on
abbrev pub invariant-loop-place : goal.invariant-loop-place
invariant-loop-place l = (kept : List ℕ) → after_last kept (drop l.place l.path) ≡ kept
