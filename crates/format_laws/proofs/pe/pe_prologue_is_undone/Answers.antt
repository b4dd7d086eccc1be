use Rattle.format_laws.proofs.PeSteps.{prologue_call_undone}
use Rattle.format_laws.proofs.pe.pe_prologue_is_undone.Goals as goal

pub returns : goal.returns
returns c = λ image m functions f t s columns done later d r is words shows st quiet. prologue_call_undone image m functions d f is t s words columns shows r done later st quiet
