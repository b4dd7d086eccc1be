use Rattle.std.proofs.Common.{◌≡◌, drop}
use Rattle.elf_symbols.specs.Sections.{first_of_type}
use Rattle.elf_symbols.proofs.section.first_of_type.Given as goal

abbrev pub invariant-loop-i : goal.invariant-loop-i
invariant-loop-i l = first_of_type l.kind (drop l.i l.headers) ≡ first_of_type l.kind l.headers
