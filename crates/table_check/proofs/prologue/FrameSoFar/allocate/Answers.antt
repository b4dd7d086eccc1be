use Rattle.std.proofs.Common.{◌-◌, ◌+◌, ◌^◌, ap, ◌∙◌}
use Rattle.std.specs.Prelude.{min}
use Rattle.table_check.proofs.FrameSteps.{after_allocate}
use Rattle.table_check.proofs.prologue.FrameSoFar.allocate.Goals as goal

pub returns : goal.returns
returns c before was = after_allocate c.args.self.now before c.saturating_add-self.result c.args.size (c.saturating_add-self.ensures ∙ ap (λ m. min (c.args.self.now.depth + m) (2 ^ 128 - 1)) c.from.ensures) was
