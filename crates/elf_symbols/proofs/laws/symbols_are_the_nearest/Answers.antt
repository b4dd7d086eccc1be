use Rattle.elf_symbols.proofs.Nearer.{nearest_symbol, no_symbol}
use Rattle.elf_symbols.proofs.laws.symbols_are_the_nearest.Goals as goal

pub returns : goal.returns
returns c = record { some = nearest_symbol; none = no_symbol }
