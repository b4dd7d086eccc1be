use Rattle.mapped_modules.proofs.Standing.{core_apart, core_laid_out}
use Rattle.mapped_modules.proofs.laws.spaces_of_cores_stand.Goals as goal

pub returns-clause-laid_out : goal.returns-clause-laid_out
returns-clause-laid_out c = λ loaded segments. core_laid_out loaded segments

pub returns-clause-apart : goal.returns-clause-apart
returns-clause-apart c = λ loaded segments. core_apart loaded segments
