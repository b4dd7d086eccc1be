-- A walk that ends within a limit ends in the same way under each higher one.
use Rattle.std.proofs.Common.{◌≡◌, ◌≢◌, ◌≤◌, inl, inr, ◌∙◌, ℕ, zero, suc, Bool, List, Option, Some, None, Result, Ok, Err, refl, ap, arith}
use Rattle.unwind_arch.specs.declared.x86_64.Context.{Context}
use Rattle.format_frames.specs.declared.machine.Stepped.{Stepped}
use Rattle.stack_steps.specs.declared.error.DeliverError.{DeliverError}
use Rattle.stack_steps.specs.declared.error.DeliverError.TheVariants.{FrameLimit}
use Rattle.stack_steps.specs.Modules.{SpaceValue}
use Rattle.stack_steps.specs.Stepping.{step_of}
use Rattle.stack_walks.specs.Lines.{GivesUnlessNoMemory, line_after, line_of, with_first}

limit_first : (c : Context) (r : Result (List Context) DeliverError) → r ≡ Err FrameLimit → with_first c r ≡ Err FrameLimit
limit_first c r e = rw e refl

pub few_are_enough : (space : SpaceValue) (few limit : ℕ) → few ≤ limit → (c : Context) (interrupted : Bool) → (line_of space few c interrupted ≡ Err FrameLimit → ⊥) → line_of space few c interrupted ≡ line_of space limit c interrupted
few_are_enough space zero limit le c interrupted ends = absurd (ends refl)
few_are_enough space (suc few) zero le c interrupted ends = absurd (omega (arith, le))
few_are_enough space (suc few) (suc limit) le c interrupted ends = go (step_of space c interrupted) ends (λ s. few_are_enough space few limit (omega (arith, le)) s.context s.signal)
  where
    go : (r : Result (Option Stepped) DeliverError) → (line_after c r (line_of space few) ≡ Err FrameLimit → ⊥) → ((s : Stepped) → (line_of space few s.context s.signal ≡ Err FrameLimit → ⊥) → line_of space few s.context s.signal ≡ line_of space limit s.context s.signal) →
        line_after c r (line_of space few) ≡ line_after c r (line_of space limit)
    go (Err e) ends later = refl
    go (Ok None) ends later = refl
    go (Ok (Some s)) ends later = ap (with_first c) (later s (λ e. ends (limit_first c (line_of space few s.context s.signal) e)))

-- and so does what gives it
pub few_are_given : (space : SpaceValue) (few limit : ℕ) (c : Context) (interrupted : Bool) (result : Result (List Context) DeliverError) → few ≤ limit → result ≢ Err FrameLimit → GivesUnlessNoMemory result (line_of space few c interrupted) → GivesUnlessNoMemory result (line_of space limit c interrupted)
few_are_given space few limit c interrupted result le ends (inl memory) = inl memory
few_are_given space few limit c interrupted result le ends (inr is) = inr (is ∙ few_are_enough space few limit le c interrupted (λ e. ends (is ∙ e)))
