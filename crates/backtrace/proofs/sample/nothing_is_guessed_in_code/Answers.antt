use Rattle.std.proofs.Common.{◌≡◌, None}
use Rattle.stack_snapshot.specs.Content.{space_of}
use Rattle.backtrace.specs.Tracing.{called_from}
use Rattle.backtrace.proofs.Somewhere.{code_is_somewhere}
use Rattle.backtrace.proofs.sample.nothing_is_guessed_in_code.Goals as goal

pub returns : goal.returns
returns c = λ s places code t is traced.
    let none : called_from (space_of s) places.code s.start s.interrupted ≡ None = code_is_somewhere (space_of s) places.code s.start s.interrupted code is in
    let there = rw none at traced in
    there.0
