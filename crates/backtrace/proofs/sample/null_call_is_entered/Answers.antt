use Rattle.std.proofs.Common.{inl, refl, arith}
use Rattle.backtrace.proofs.NullCall.{entered, kept, shows}
use Rattle.backtrace.proofs.sample.null_call_is_entered.Goals as goal

pub returns-clause-nowhere : goal.returns-clause-nowhere
returns-clause-nowhere c = (refl, inl refl, refl)

pub returns-clause-entered : goal.returns-clause-entered
returns-clause-entered c = entered

pub returns-clause-stands : goal.returns-clause-stands
returns-clause-stands c = record { steps = refl; entered = entered; intact = λ r free. kept r; after = omega arith; below = omega arith }

pub returns-clause-shows : goal.returns-clause-shows
returns-clause-shows c = shows
