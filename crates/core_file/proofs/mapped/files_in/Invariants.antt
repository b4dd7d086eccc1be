use Rattle.std.proofs.Common.{◌≡◌, drop}
use Rattle.core_file.specs.MappedParts.{files_in}
use Rattle.core_file.proofs.mapped.files_in.Given as goal

abbrev pub invariant-loop-i : goal.invariant-loop-i
invariant-loop-i l = files_in l.bytes (drop l.i l.headers) ≡ files_in l.bytes l.headers
