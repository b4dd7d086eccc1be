use Rattle.elf_symbols.proofs.SampleLemmas.{after_inner, at_inner, at_outer, past_outer, small_file_is_read}
use Rattle.elf_symbols.proofs.laws.functions_of_a_small_file.Goals as goal

pub returns : goal.returns
returns c = record { table = small_file_is_read; outer = at_outer; inner = at_inner; later = after_inner; none = past_outer }
