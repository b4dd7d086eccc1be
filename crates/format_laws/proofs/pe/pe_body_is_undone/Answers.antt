use Rattle.format_laws.proofs.PeSteps.{body_call_undone}
use Rattle.format_laws.proofs.pe.pe_body_is_undone.Goals as goal

pub returns : goal.returns
returns c = λ image m functions f t s columns a d has is words shows entered inside. body_call_undone image m functions d f is t s words columns shows has a inside entered
