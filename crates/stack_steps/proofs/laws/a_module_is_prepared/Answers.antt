use Rattle.std.proofs.Common.{refl}
use Rattle.stack_steps.proofs.PreparedSamples.{sample_prepares, sample_prepares_at, whatever_is_prepared}
use Rattle.stack_steps.proofs.laws.a_module_is_prepared.Goals as goal

pub returns-clause-prepares : goal.returns-clause-prepares
returns-clause-prepares c = sample_prepares

pub returns-clause-at : goal.returns-clause-at
returns-clause-at c = sample_prepares_at

pub returns-clause-always : goal.returns-clause-always
returns-clause-always c count space prepares = whatever_is_prepared count space prepares

pub returns-clause-indexed : goal.returns-clause-indexed
returns-clause-indexed c = refl
