use Rattle.std.proofs.Common.{◌-◌, ◌++◌, ◌∷◌, [], sym, ap, subst, ◌∙◌}
use Rattle.std.specs.Prelude.{max}
use Rattle.unwind_definitions.specs.Prologue.{Followed, Store}
use Rattle.table_check.specs.Frames.{IsFrameAfter, callee_saved_of}
use Rattle.table_check.proofs.FrameSteps.{after_store}
use Rattle.table_check.proofs.prologue.FrameSoFar.store.Goals as goal

pub returns : goal.returns
returns c before was within none =
    let q = callee_saved_of c.args.register in
    subst (λ f. IsFrameAfter f (before ++ Store (Followed q) c.args.offset ∷ [])) (sym c.save.ensures)
    (after_store c.args.self.now before q c.max-distance.result c.offset_of.result c.args.offset (c.max-distance.ensures ∙ ap (λ m. max m 1) (c.saturating_sub.ensures ∙ ap (λ m. c.args.self.now.depth - m) c.from.ensures)) c.offset_of.ensures c.ranges.offset.fits was within none)
