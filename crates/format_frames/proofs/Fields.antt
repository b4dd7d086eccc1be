-- The fields of an opcode that lie below a frame pointer.
use Rattle.std.proofs.Common.{◌≡◌, ℕ, List, map, take, Option, sym}
use Rattle.std.proofs.lemmas.List.{take-map}
use Rattle.macho_unwind_info.specs.declared.opcodes.x86_64.RegisterNameX86_64.{RegisterNameX86_64}
use Rattle.format_definitions.specs.CompactStep.{saved_in}

pub first_named : (n : ℕ) (fields : List (Option RegisterNameX86_64)) → map saved_in (take n fields) ≡ take n (map saved_in fields)
first_named n fields = sym (take-map saved_in n fields)
