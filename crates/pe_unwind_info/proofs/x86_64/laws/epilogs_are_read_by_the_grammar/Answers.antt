use Rattle.pe_unwind_info.proofs.EpilogSequences.{sequence_is}
use Rattle.pe_unwind_info.proofs.x86_64.laws.epilogs_are_read_by_the_grammar.Goals as goal

pub returns : goal.returns
returns c = λ frame bytes. sequence_is frame bytes
