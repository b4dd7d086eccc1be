-- The walk of a sample doesn't depend on which modules are prepared.
use Rattle.std.proofs.Common.{◌≡◌, ◌==◌, ℕ, map, zero, suc, Bool, true, false, if◌then◌else◌, List, [], ◌∷◌, Option, Some, None, Result, Ok, Err, refl, ap, ◌∙◌}
use Rattle.unwind_definitions.specs.LanguageSearch.{address_of_call}
use Rattle.unwind_arch.specs.declared.x86_64.Context.{Context}
use Rattle.format_frames.specs.declared.machine.Stepped.{Stepped}
use Rattle.perf_data.specs.Samples.{SampleValue}
use Rattle.stack_steps.specs.declared.error.DeliverError.{DeliverError}
use Rattle.stack_steps.specs.Modules.{Added, SpaceValue}
use Rattle.stack_steps.specs.Functions.{described_function}
use Rattle.stack_steps.specs.Growing.{over_image}
use Rattle.stack_steps.specs.Stepping.{frame_of, step_of}
use Rattle.stack_walks.specs.WalkEnds.{caller_in, caller_from, start_state, contexts_to_end}
use Rattle.stack_walks.proofs.Reaching.{same_reached}
use Rattle.delivery_laws.proofs.SameAnswers.{step_same}
use Rattle.popped_registers.specs.PoppedRegisters.{are_some, is_popped, kept_over, kept_space, popped_in}
use Rattle.sampled_profile.specs.declared.stack_end.StackEnd.{StackEnd}
use Rattle.sampled_profile.specs.Ends.{StackWalk, returns_of}
use Rattle.sampled_profile.specs.Frames.{addresses_of, asked_then, frames_of, place_in, places_of}
use Rattle.sampled_profile.specs.Walks.{end_after, end_of, sample_space, start_of, walk_by, walk_from, walk_of, walk_over}

module _ (s : SpaceValue) (added : List Added) where
  abbrev pub other : SpaceValue
  other = record s { added = added }

  pub front_same : (limit : ℕ) (c : Context) → contexts_to_end other limit c true ≡ contexts_to_end s limit c true
  front_same limit c = ap (λ r. r.contexts) (same_reached (caller_from other) (caller_from s) (λ t. ap caller_in (step_same s added t.context t.signal)) limit (start_state c true))

  pub end_same : (limit : ℕ) (c : Context) (interrupted : Bool) → end_of other limit c interrupted ≡ end_of s limit c interrupted
  end_same zero c interrupted = refl
  end_same (suc room) c interrupted = ap (λ (r : Result (Option Stepped) DeliverError). end_after c r (end_of other room)) (step_same s added c interrupted) ∙ go (step_of s c interrupted) (end_same room)
    where
      go : (r : Result (Option Stepped) DeliverError) → ((d : Context) (marked : Bool) → end_of other room d marked ≡ end_of s room d marked) → end_after c r (end_of other room) ≡ end_after c r (end_of s room)
      go (Err e) outer = refl
      go (Ok None) outer = refl
      go (Ok (Some t)) outer = outer t.context t.signal

  over_same : (limit : ℕ) (c : Context) (popped : Bool) → walk_over other limit c popped ≡ walk_over s limit c popped
  over_same limit c popped = let states = front_same limit c in let last = end_same limit c true in λ i. record { returns = returns_of (states i); end = last i; popped = popped }

  -- nor do the functions of its frames
  pub addresses_same : (interrupted : Bool) (returns : List ℕ) → addresses_of other interrupted returns ≡ addresses_of s interrupted returns
  unfolding described_function
  addresses_same interrupted [] = refl
  addresses_same interrupted (a ∷ returns) =
      let asked = address_of_call a interrupted in
      let rest : (signal : Bool) → addresses_of other signal returns ≡ addresses_of s signal returns = λ signal. addresses_same signal returns in
      λ i. if a == 0 then rest false i else asked_then s asked (λ signal. rest signal i)

  pub places_same : (interrupted : Bool) (returns : List ℕ) → places_of other interrupted returns ≡ places_of s interrupted returns
  unfolding described_function
  places_same interrupted returns = ap (map (place_in s)) (addresses_same interrupted returns)

  pub frames_same : (w : StackWalk) → frames_of other w ≡ frames_of s w
  frames_same w = let places = places_same true w.returns in λ i. record { places = places i; end = w.end; popped = w.popped }

  popped_same : (limit : ℕ) (c : Context) → popped_in other limit c ≡ popped_in s limit c
  unfolding popped_in step_of frame_of
  popped_same zero c = refl
  popped_same (suc room) c = refl

module _ (s : SpaceValue) (added : List Added) (limit : ℕ) where
  from_same : (s : SpaceValue) (c : Context) → walk_from (other s added) limit c ≡ walk_from s limit c
  from_same s c =
      ap (λ ps. walk_over (over_image (other s added) (kept_over s.image ps)) limit c (are_some ps)) (popped_same s added limit c)
      ∙ over_same (kept_space s limit c) added limit c (is_popped s limit c)

  by_same : (stack : List ℕ) (start : Result Context StackEnd) → walk_by (other s added) limit stack start ≡ walk_by s limit stack start
  by_same stack (Ok c) = from_same (sample_space s c stack) c
  by_same stack (Err end) = refl

  pub walk_same : (sample : SampleValue) → walk_of (other s added) limit sample ≡ walk_of s limit sample
  walk_same sample = by_same sample.stack (start_of sample.registers)
