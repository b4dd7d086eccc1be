use Rattle.stack_steps.proofs.DescribedFrames.{frame_described, undescribed}
use Rattle.stack_steps.proofs.laws.a_frame_is_that_of_the_described_function.Goals as goal

pub returns-clause-found : goal.returns-clause-found
returns-clause-found c space context interrupted f elf is = frame_described space context interrupted elf f is

pub returns-clause-none : goal.returns-clause-none
returns-clause-none c space context interrupted elf none = undescribed space context interrupted elf none
