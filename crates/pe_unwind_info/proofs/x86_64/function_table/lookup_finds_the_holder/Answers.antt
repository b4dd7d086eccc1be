use Rattle.pe_unwind_info.proofs.TableLemmas.{holder_is_found, none_is_found}
use Rattle.pe_unwind_info.proofs.x86_64.function_table.lookup_finds_the_holder.Goals as goal

pub returns-clause-found : goal.returns-clause-found
returns-clause-found c = λ functions low high address function ordered has holds. holder_is_found functions low high address function ordered has holds

pub returns-clause-none : goal.returns-clause-none
returns-clause-none c = λ functions low high address ordered none. none_is_found functions low high address ordered none
