use Rattle.format_laws.proofs.One.{one_chain}
use Rattle.format_laws.proofs.validity.format_chain_is_one.Goals as goal

pub returns : goal.returns
returns c' = λ image modules functions s calls more is alone x y. one_chain image modules functions alone is.apart s calls more x y
