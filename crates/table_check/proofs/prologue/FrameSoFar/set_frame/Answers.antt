use Rattle.table_check.proofs.FrameSteps.{after_set}
use Rattle.table_check.proofs.prologue.FrameSoFar.set_frame.Goals as goal

pub returns : goal.returns
returns c before offset was none = after_set c.args.self.now before offset was none
