use Rattle.std.proofs.Common.{◌≡◌, ◌≤◌, drop, length}
use Rattle.elf_symbols.specs.Symbols.{symbol_at}
use Rattle.elf_symbols.proofs.symbols.symbol_at.Given as goal

abbrev pub invariant-loop-left : goal.invariant-loop-left
invariant-loop-left l = (l.left ≤ length l.symbols) × (l.nearest ≡ symbol_at l.address (drop l.left l.symbols))

abbrev pub decreases-loop-left : goal.decreases-loop-left
decreases-loop-left l = l.left
