-- What is seen at a context is what a frame is made of there.
use Rattle.std.proofs.Common.{inl, inr, ◌≡◌, ◌≢◌, ℕ, Bool, Option, Some, None, Result, Ok, Err, List, refl, sym, ap, subst}
use Rattle.std.specs.Prelude.{IsSome}
use Rattle.std.proofs.lemmas.Bool.Decides.{eqb_tells}
use Rattle.memory_image.specs.Image.{Span}
use Rattle.unwind_definitions.specs.Caller.{Columns, StepFault}
use Rattle.unwinding_frames.specs.declared.frame.StepError.{StepError}
use Rattle.unwinding_frames.specs.Calling.{fault_of}
use Rattle.fde_finders.specs.Finding.{FoundFde}
use Rattle.unwinding_frames.specs.FrameValue.{FrameValue}
use Rattle.unwind_definitions.specs.LanguageSearch.{address_of_call}
use Rattle.unwinding_frames.specs.Framed.{GivesFrame}
use Rattle.unwinding_frames.specs.Seen.{FrameSeen, Finds, Shows, SeesFrame, in_column}
use Rattle.unwinding_core.specs.FrameVisits.{IsSeen}

shown : (a : ℕ) (answer : Option FoundFde) (result : Result (Option FrameValue) StepError) → GivesFrame a answer result → (seen : Result (Option FrameSeen) StepFault) × Shows a answer seen × IsSeen result seen
shown a None result e = (Ok None, refl, subst (λ (r : Result (Option FrameValue) StepError). IsSeen r (Ok None)) (sym e) refl)
shown a (Some found) (Ok None) none = absurd none
shown a (Some found) (Ok (Some frame)) g = (Ok (Some (record { value = frame; run = g.1.0 })), (g.0, g.1.1, g.1.2), (g.1.0, refl, g.1.2))
shown a (Some found) (Err e) g = (Err (fault_of e), (g.0, ap fault_of g.1, g.2), refl)

module _ (finds : Finds) (image : List Span) (columns : Columns) (k : ℕ) (signal : Bool) (result : Result (Option FrameValue) StepError) where
  abbrev Seen : ℕ → Type 0
  Seen ra = (seen : Result (Option FrameSeen) StepFault) × SeesFrame finds image ra signal seen × IsSeen result seen

  at_end : (ra : ℕ) → ra ≡ 0 → result ≡ Ok None → Seen ra
  at_end ra zero ended = (Ok None, rw zero refl, subst (λ (r : Result (Option FrameValue) StepError). IsSeen r (Ok None)) (sym ended) refl)

  pub frame_seen : IsSome (columns k) → (columns k ≡ Some 0 → result ≡ Ok None) →
      ((ra : ℕ) → columns k ≡ Some ra → ra ≢ 0 → (answer : Option FoundFde) × (ticks : ℕ) × finds image (address_of_call ra signal) answer ticks × GivesFrame (address_of_call ra signal) answer result) →
      Seen (in_column k columns)
  frame_seen some ended framed = go (columns k) refl some
    where
      at : (ra : ℕ) → columns k ≡ Some ra → Seen ra
      at ra is = elim (eqb_tells ra 0) as (λ t. Seen ra) [
        | inl e ↦ let zero : ra ≡ 0 = e.1 in at_end ra zero (ended (rw zero at is))
        | inr other ↦
            let f = framed ra is other.1 in
            let s = shown (address_of_call ra signal) f.0 result f.3 in
            (s.0, rw other.0 (f.0, f.1, f.2, s.1), s.2)
      ]

      go : (o : Option ℕ) → columns k ≡ o → IsSome o → Seen (in_column k columns)
      go None is none = absurd cc
      go (Some ra) is there = rw is (at ra is)
