use Rattle.std.proofs.Common.{refl, arith}
use Rattle.eh_frame.proofs.SampleIndex.{is_prepared, is_limited}
use Rattle.eh_frame.proofs.laws.table_of_a_push_is_prepared.Goals as goal

pub returns-clause-prepared : goal.returns-clause-prepared
returns-clause-prepared c bases = is_prepared bases

pub returns-clause-limited : goal.returns-clause-limited
returns-clause-limited c bases = is_limited bases

pub returns-clause-found : goal.returns-clause-found
returns-clause-found c = record { within = omega arith; stands = λ d. refl; contains = refl }
