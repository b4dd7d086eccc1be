use Rattle.unwind_laws.proofs.ThreeValid.{starts_listed, first_answered}
use Rattle.unwind_laws.proofs.samples.header_table_lists_starts.Goals as goal

pub returns-clause-starts : goal.returns-clause-starts
returns-clause-starts c = starts_listed

pub returns-clause-answer : goal.returns-clause-answer
returns-clause-answer c = first_answered
