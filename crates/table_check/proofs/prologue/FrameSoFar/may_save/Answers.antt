use Rattle.table_check.specs.Frames.{callee_saved_of}
use Rattle.table_check.specs.ClaimViews.{register_of}
use Rattle.table_check.proofs.FrameSteps.{may_be_saved}
use Rattle.table_check.proofs.prologue.FrameSoFar.may_save.Goals as goal

pub returns-in-Some : goal.returns-in-Some
returns-in-Some c before was = may_be_saved c.args.self.now before (callee_saved_of c.in-Some.register) c.slot.result c.is_none.result (register_of c.args.column.0) was c.slot.ensures c.is_none.ensures c.in-Some.ensures
