use Rattle.eh_frame.proofs.Indexed.{scan_found}
use Rattle.eh_frame.proofs.laws.index_answers_as_a_scan.Goals as goal

pub returns : goal.returns
returns c bases table index pc i fde from found = scan_found bases table index from pc i fde found
