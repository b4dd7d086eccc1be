use Rattle.format_laws.proofs.PeSteps.{epilog_call_undone}
use Rattle.format_laws.proofs.pe.pe_epilog_is_undone.Goals as goal

pub returns : goal.returns
returns c = λ image m functions f t s columns d r is words shows st. epilog_call_undone image m functions d f is t s words columns shows r st
