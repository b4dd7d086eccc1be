use Rattle.std.proofs.Common.{◌≡◌, drop}
use Rattle.core_file.specs.CoreValue.{notes_are_whole}
use Rattle.core_file.proofs.threads.notes_are_whole.Given as goal

abbrev pub invariant-loop-i : goal.invariant-loop-i
invariant-loop-i l = notes_are_whole l.bytes (drop l.i l.headers) ≡ notes_are_whole l.bytes l.headers
