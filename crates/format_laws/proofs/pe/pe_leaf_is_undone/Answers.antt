use Rattle.format_laws.proofs.PeSteps.{leaf_call_undone}
use Rattle.format_laws.proofs.pe.pe_leaf_is_undone.Goals as goal

pub returns : goal.returns
returns c = λ image m functions f t s columns a d leaf is words shows entered low high. leaf_call_undone image m functions d f is t s words columns shows leaf a low high entered
