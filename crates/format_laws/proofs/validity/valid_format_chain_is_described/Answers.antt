use Rattle.format_laws.proofs.Parts.{valid_described}
use Rattle.format_laws.proofs.validity.valid_format_chain_is_described.Goals as goal

pub returns : goal.returns
returns c' = λ image modules start resumes functions s calls valid. valid_described image modules start resumes functions s calls valid
