use Rattle.std.proofs.Common.{◌≡◌, length, drop}
use Rattle.std.specs.List.{list_all}
use Rattle.core_file.specs.ProgramHeaders.{is_within}
use Rattle.core_file.proofs.program_header.are_within.Given as goal

abbrev pub invariant-loop-i : goal.invariant-loop-i
invariant-loop-i l = list_all (is_within (length l.bytes)) (drop l.i l.headers) ≡ list_all (is_within (length l.bytes)) l.headers
