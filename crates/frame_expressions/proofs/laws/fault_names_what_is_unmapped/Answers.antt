use Rattle.frame_expressions.specs.Unmapped.{unmapped_is}
use Rattle.frame_expressions.proofs.laws.fault_names_what_is_unmapped.Goals as goal

pub returns : goal.returns
returns c image columns expression limit start a has = unmapped_is image columns expression limit start a has
