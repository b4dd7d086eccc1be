use Rattle.fact_deliveries.proofs.GuardedStarts.{guarded_apart, guarded_laid_out, guarded_starts}
use Rattle.fact_deliveries.proofs.landings.a_handler_after_a_cleanup_is_known.Goals as goal

pub returns-clause-laid_out : goal.returns-clause-laid_out
returns-clause-laid_out c = guarded_laid_out

pub returns-clause-apart : goal.returns-clause-apart
returns-clause-apart c = guarded_apart

pub returns-clause-starts : goal.returns-clause-starts
returns-clause-starts c = guarded_starts
