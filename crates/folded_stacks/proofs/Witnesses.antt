-- Samples of a function that pushes RBX.
use Rattle.std.proofs.Common.{◌≡◌, [], ◌∷◌, Some, false, refl, inl, lit<, lit≤}
use Rattle.unwind_laws.specs.Pushing as pushing
use Rattle.unwind_laws.proofs.PushingValid.{one_valid}
use Rattle.unwind_laws.proofs.Walk.{valid_described}
use Rattle.memory_image.specs.Image.{IsLaidOut}
use Rattle.stack_steps.specs.Modules.{AreApart}
use Rattle.stack_steps.specs.SpaceViews.{process_of}
use Rattle.stack_steps.specs.StopSample.{after_the_push, pushing_space, stopped_at}
use Rattle.stack_steps.proofs.StepAnswers.{ends_step}
use Rattle.stack_steps.proofs.StopSamples.{walks_in_body}
use Rattle.stack_walks.specs.Walking.{StartsChain}
use Rattle.stack_walks.proofs.ElfChains.{elf_starts}
use Rattle.folded_stacks.specs.Folding.{fold_of, walked_stack}
use Rattle.folded_stacks.specs.FoldSample.{folded_three, sample_at, three_samples}
use Rattle.folded_stacks.proofs.Walks.{chain_stacked}

pub starts_chain : StartsChain pushing_space (sample_at 0x401006).start 4 (pushing.function ∷ []) pushing.start (after_the_push ∷ [])
starts_chain = elf_starts pushing_space (pushing.function ∷ []) (tt, tt) pushing.start pushing.calls (valid_described (process_of pushing_space) _ _ (pushing.function ∷ []) pushing.start pushing.calls one_valid) (stopped_at 0x401006) 4
    walks_in_body.shows (lit< tt)

pub laid_out : IsLaidOut 0 pushing_space.image
laid_out = (lit≤ tt, lit< tt, lit≤ tt, (lit≤ tt, lit< tt, lit≤ tt, tt))

pub apart : AreApart 0 pushing_space.modules
apart = (lit≤ tt, lit< tt, lit< tt)

pub pushed : walked_stack pushing_space 4 (sample_at 0x401006) ≡ Some (0x401006 ∷ [])
pushed = chain_stacked pushing_space 4 (sample_at 0x401006) (pushing.function ∷ []) pushing.start (after_the_push ∷ []) apart laid_out starts_chain refl

pub ended : walked_stack pushing_space 4 (sample_at 0) ≡ Some []
unfolding walked_stack
ended = rw (ends_step pushing_space (stopped_at 0) false (inl refl)) refl

pub folded : fold_of pushing_space 4 three_samples ≡ folded_three
unfolding fold_of
folded = rw (pushed, ended) refl
