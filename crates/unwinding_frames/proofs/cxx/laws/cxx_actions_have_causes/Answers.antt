use Rattle.unwinding_frames.proofs.CxxAsked.{handler, cleanup, nothing, end}
use Rattle.unwinding_frames.proofs.cxx.laws.cxx_actions_have_causes.Goals as goal

pub returns-clause-handler : goal.returns-clause-handler
returns-clause-handler c = λ image x p a pad filter. handler image x p a pad filter

pub returns-clause-cleanup : goal.returns-clause-cleanup
returns-clause-cleanup c = λ image x p a pad. cleanup image x p a pad

pub returns-clause-nothing : goal.returns-clause-nothing
returns-clause-nothing c = λ image x p a. nothing image x p a

pub returns-clause-end : goal.returns-clause-end
returns-clause-end c = λ image x p a. end image x p a
