use Rattle.std.proofs.Common.{◌≡◌, ◌++◌, ◌∷◌, ℕ, List, sym, subst, ◌∙◌}
use Rattle.stack_steps.specs.Modules.{SpaceValue}
use Rattle.sampled_profile.specs.Frames.{addresses_of}
use Rattle.sampled_profile.specs.Scripts.{frame_lines}
use Rattle.sampled_profile.proofs.ScriptLemmas.{one_more_line}
use Rattle.sampled_profile.proofs.lines.put_frame_lines.Goals as goal

pub loop-i-preserved : goal.loop-i-preserved
loop-i-preserved c =
    let put = subst (λ (s : SpaceValue). (outer : List ℕ) → c.put_frame_line.new.report ++ frame_lines s c.args.origins.now (addresses_of s c.in_ok-interrupted.interrupted outer)
    ≡ c.loop-i.report ++ frame_lines s c.args.origins.now (addresses_of s c.loop-i.interrupted (c.unwrap-state.result.ra ∷ outer))) c.loop-i.invariant.same c.in_ok-interrupted.ensures.lines in
    record {
      lines = one_more_line c.args.cache.now c.args.origins.now c.args.room.now.visited c.loop-i.i c.unwrap-state.result c.loop-i.interrupted c.in_ok-interrupted.interrupted c.loop-i.report c.put_frame_line.new.report _ (sym c.visited.ensures ∙ c.unwrap-state.ensures) c.loop-i.invariant.lines put;
      same = c.put_frame_line.ensures.same ∙ c.loop-i.invariant.same;
    }
