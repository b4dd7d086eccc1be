use Rattle.std.proofs.Common.{◌++◌, ◌∷◌, [], sym, ap, subst}
use Rattle.std.specs.Prelude.{◌||◌}
use Rattle.unwind_definitions.specs.Prologue.{Followed, Push}
use Rattle.table_check.specs.Frames.{IsFrameAfter, callee_saved_of}
use Rattle.table_check.proofs.FrameSteps.{after_push}
use Rattle.table_check.proofs.prologue.FrameSoFar.push.Goals as goal

pub returns : goal.returns
returns c before was none =
    let q = callee_saved_of c.args.register in
    subst (λ f. IsFrameAfter f (before ++ Push (Followed q) ∷ [])) (sym c.save.ensures)
    (after_push c.args.self.now before q c.saturating_add-depth.result c.offset_of.result _ c.saturating_add-depth.ensures c.offset_of.ensures (ap (λ b. c.args.self.now.is_rbp_pushed || b) c.is_rbp.ensures) was none)
