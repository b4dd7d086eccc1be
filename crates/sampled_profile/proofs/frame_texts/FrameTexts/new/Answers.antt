use Rattle.std.proofs.Common.{List, ℕ, subst, sym}
use Rattle.std.specs.Prelude.{All}
use Rattle.std.specs.Vec.{vec_len}
use Rattle.sampled_profile.proofs.TextLemmas.{IsKeptPlace, none_are_kept}
use Rattle.sampled_profile.proofs.frame_texts.FrameTexts.new.Goals as goal

pub invariant_of-result : goal.invariant_of-result
invariant_of-result c =
    subst (λ (texts : List ℕ). All (IsKeptPlace c.args.origins.now texts) c.resize.new.self.items) (sym c.new.ensures.items)
    (none_are_kept c.args.origins.now 8192 (vec_len c.new-places.result) c.new-places.result.items c.resize.new.self.items c.new-places.ensures.items c.in_ok-resize.ensures.items)
