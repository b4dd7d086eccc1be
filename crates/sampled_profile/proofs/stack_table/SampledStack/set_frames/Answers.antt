use Rattle.std.proofs.Common.{◌≡◌, ◌++◌, ◌∷◌, ℕ, List, sym, subst, ◌∙◌}
use Rattle.stack_steps.specs.Modules.{SpaceValue}
use Rattle.sampled_profile.specs.Frames.{places_of}
use Rattle.sampled_profile.proofs.TextLemmas.{one_more_frame}
use Rattle.sampled_profile.proofs.stack_table.SampledStack.set_frames.Goals as goal

pub loop-i-preserved : goal.loop-i-preserved
loop-i-preserved c = record {
  places = one_more_frame c.args.cache.now c.args.room.now.visited c.loop-i.i c.unwrap-state.result c.loop-i.interrupted c.in_ok-interrupted.interrupted c.loop-i.self.places.items c.push_frame.new.self.places.items _ (sym c.visited.ensures ∙ c.unwrap-state.ensures) c.loop-i.invariant.places (subst (λ (s : SpaceValue). (outer : List ℕ) → c.push_frame.new.self.places.items ++ places_of s c.in_ok-interrupted.interrupted outer ≡ c.loop-i.self.places.items ++ places_of s c.loop-i.interrupted (c.unwrap-state.result.ra ∷ outer)) c.loop-i.invariant.same c.in_ok-interrupted.ensures.placed);
  same = c.push_frame.ensures.same ∙ c.loop-i.invariant.same;
  name = c.push_frame.ensures.name ∙ c.loop-i.invariant.name;
  end = c.push_frame.ensures.end ∙ c.loop-i.invariant.end;
  popped = c.push_frame.ensures.popped ∙ c.loop-i.invariant.popped;
}
