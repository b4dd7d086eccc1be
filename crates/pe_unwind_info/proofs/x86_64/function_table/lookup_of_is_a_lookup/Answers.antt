use Rattle.pe_unwind_info.proofs.TableLemmas.{lookup_of-is}
use Rattle.pe_unwind_info.proofs.x86_64.function_table.lookup_of_is_a_lookup.Goals as goal

pub returns : goal.returns
returns c = λ functions address. lookup_of-is functions address
