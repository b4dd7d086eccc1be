use Rattle.std.proofs.Common.{refl}
use Rattle.backtrace.proofs.sample.code_ends_a_backtrace.Goals as goal

pub returns-clause-code : goal.returns-clause-code
returns-clause-code c = λ places range a is. rw is refl

pub returns-clause-none : goal.returns-clause-none
returns-clause-none c = λ places a is. rw is refl
