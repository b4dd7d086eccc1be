-- A row that was made is the one that a search finds.
use Rattle.std.proofs.Common.{◌≡◌, ◌≢◌, ℕ, zero, suc, ◌<◌, ◌==◌, Bool, true, false, List, [], ◌∷◌, length, get_or, set, Option, Some, None, Result, Ok, Err, refl, sym, ap, subst, ◌∙◌, arith}
use Rattle.std.specs.Prelude.{if◌then◌else◌}
use Rattle.std.specs.List.{AllByRecursion}
use Rattle.std.proofs.lemmas.Bool.{ne_eqb}
use Rattle.unwind_definitions.specs.LanguageSearch.{address_of_call}
use Rattle.unwind_arch.specs.declared.x86_64.Context.{Context}
use Rattle.fde_finders.specs.Finding.{FoundFde}
use Rattle.format_frames.specs.declared.machine.Stepped.{Stepped}
use Rattle.frame_rows.specs.Rows.{IsRowOf}
use Rattle.frame_rows.specs.RowValue.{RowValue}
use Rattle.stack_steps.specs.declared.error.DeliverError.{DeliverError}
use Rattle.stack_steps.specs.declared.made_rows.MadeRow.{MadeRow}
use Rattle.stack_steps.specs.Elf.{caller}
use Rattle.stack_steps.specs.Frames.{FrameAt, DescribedFrame, Described, Compact, Recorded}
use Rattle.stack_steps.specs.FrameViews.{IsDescribedAt}
use Rattle.stack_steps.specs.MadeRows.{AreMade, FindsMade, IsFreePlace, IsMade, IsMadePlace, KeepsMade}
use Rattle.stack_steps.specs.Modules.{SpaceValue, module_at}
use Rattle.stack_steps.specs.Stepping.{frame_in, frame_of, step_of}
use Rattle.stack_steps.proofs.StepParts.{some_next, step_is, stepped_by}

-- ---- the places

module _ (space : SpaceValue) where
  free_made : (place : Option MadeRow) → IsFreePlace place → IsMadePlace space place
  free_made None is = tt
  free_made (Some k) is = absurd cc

  pub all_free : (places : List (Option MadeRow)) → AllByRecursion IsFreePlace places → AreMade space places
  all_free [] all = tt
  all_free (p ∷ ps) all = (free_made p all.0, all_free ps all.1)

  set_made : (places : List (Option MadeRow)) (i : ℕ) (k : MadeRow) → AreMade space places → IsMade space k → AreMade space (set places i (Some k))
  set_made [] zero k all one = tt
  set_made [] (suc i) k all one = tt
  set_made (p ∷ ps) zero k all one = (one, all.1)
  set_made (p ∷ ps) (suc i) k all one = (all.0, set_made ps i k all.1 one)

  pub kept_made : (old new : List (Option MadeRow)) (k : MadeRow) → KeepsMade old k new → AreMade space old → IsMade space k → AreMade space new
  kept_made old new k kept all one = subst (AreMade space) (sym kept.1) (set_made old kept.0 k all one)

  at_place : (places : List (Option MadeRow)) (i : ℕ) (k : MadeRow) → i < length places → get_or places i None ≡ Some k → AreMade space places → IsMade space k
  at_place [] i k lt is all = absurd (omega arith)
  at_place (p ∷ ps) zero k lt is all = subst (IsMadePlace space) is all.0
  at_place (p ∷ ps) (suc i) k lt is all = at_place ps i k (omega arith) is all.1

  pub found_made : (places : List (Option MadeRow)) (a : ℕ) (k : MadeRow) → FindsMade places a k → AreMade space places → IsMade space k
  found_made places a k f all = at_place places f.index k f.within f.there all

-- ---- the frame at a state

abbrev due_at : SpaceValue → ℕ → Result (Option FrameAt) DeliverError
due_at space n = frame_in space.image n (module_at space.modules n)

unless_outermost : (b : Bool) (r : Result (Option FrameAt) DeliverError) (x : FrameAt) → (if b then Ok None else r) ≡ Ok (Some x) → r ≡ Ok (Some x)
unless_outermost true r x e = absurd cc
unless_outermost false r x e = e

framed_due : (space : SpaceValue) (c : Context) (interrupted : Bool) (x : FrameAt) → frame_of space c interrupted ≡ Ok (Some x) → due_at space (address_of_call c.ra interrupted) ≡ Ok (Some x)
unfolding frame_of
framed_due space c interrupted x is = unless_outermost (c.ra == 0) (due_at space (address_of_call c.ra interrupted)) x is

due_framed : (space : SpaceValue) (c : Context) (interrupted : Bool) → c.ra ≢ 0 → frame_of space c interrupted ≡ due_at space (address_of_call c.ra interrupted)
unfolding frame_of
due_framed space c interrupted returns = rw (ne_eqb c.ra 0 returns) refl

pub made_of : (space : SpaceValue) (c : Context) (interrupted : Bool) (found : FoundFde) (row : RowValue) (x : FrameAt) (k : MadeRow) → frame_of space c interrupted ≡ Ok (Some x) → IsDescribedAt found (IsRowOf row) x →
    k.address ≡ address_of_call c.ra interrupted → k.row ≡ row → k.signal ≡ found.fde.cie.letters.signal → IsMade space k
made_of space c interrupted found row (Described f) k due is at same signal = record {
  frame = f;
  is_due = ap (due_at space) at ∙ framed_due space c interrupted (Described f) due;
  row = subst (λ (r : RowValue). IsRowOf r f.run) (sym same) is.1;
  signal = signal ∙ ap (λ (t : FoundFde). t.fde.cie.letters.signal) is.0;
}
made_of space c interrupted found row (Compact m g) k due is at same signal = absurd is
made_of space c interrupted found row (Recorded m g h) k due is at same signal = absurd is

-- ---- a step by such a row

module _ (space : SpaceValue) (c : Context) (interrupted : Bool) (returns : c.ra ≢ 0) (k : MadeRow) (is : IsMade space k) (at : k.address ≡ address_of_call c.ra interrupted) where
  due : frame_of space c interrupted ≡ Ok (Some (Described is.frame))
  due = due_framed space c interrupted returns ∙ ap (due_at space) (sym at) ∙ is.is_due

  stepped : (called : Result Stepped DeliverError) → ((f : DescribedFrame) → IsRowOf k.row f.run → k.signal ≡ f.found.fde.cie.letters.signal → called ≡ caller space.image c f) → some_next called ≡ step_of space c interrupted
  stepped called calls = sym (step_is space c interrupted ∙ ap (stepped_by space.image c) due ∙ ap some_next (sym (calls is.frame is.row is.signal)))

  pub made_step : (next : Stepped) → ((f : DescribedFrame) → IsRowOf k.row f.run → k.signal ≡ f.found.fde.cie.letters.signal → Ok next ≡ caller space.image c f) → Ok (Some next) ≡ step_of space c interrupted
  made_step next calls = stepped (Ok next) calls

  pub made_fault : (e : DeliverError) → ((f : DescribedFrame) → IsRowOf k.row f.run → k.signal ≡ f.found.fde.cie.letters.signal → Err e ≡ caller space.image c f) → Err e ≡ step_of space c interrupted
  made_fault e calls = stepped (Err e) calls
