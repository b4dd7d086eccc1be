-- Starts at which no caller is read from the stack.
use Rattle.std.proofs.Common.{inl, inr, ◌≡◌, ◌≢◌, Bool, true, false, ◌||◌, ◌&&◌, List, Option, Some, None, Ok, refl, eqb, arith}
use Rattle.std.proofs.lemmas.Bool.Decides.{nat_tests}
use Rattle.std.specs.Prelude.{◌==◌, is_none, if◌then◌else◌}
use Rattle.unwind_arch.specs.declared.x86_64.Context.{Context}
use Rattle.stack_steps.specs.declared.space.Module.{Module}
use Rattle.stack_steps.specs.Modules.{SpaceValue, module_at}
use Rattle.stack_steps.specs.Stepping.{step_of, EndsAt}
use Rattle.stack_steps.proofs.StepAnswers.{ends_step}
use Rattle.backtrace.specs.Code.{CodeValue, code_at}
use Rattle.backtrace.specs.Tracing.{called_from, returned_caller}

-- those at which the stack doesn't end
pub unended_somewhere : (space : SpaceValue) (code : List CodeValue) (c : Context) → (step_of space c true ≡ Ok None → ⊥) → called_from space code c true ≡ None
unended_somewhere space code c goes_on = go (eqb c.ra 0) refl (module_at space.modules c.ra) refl
  where
    ended : EndsAt space c true → ⊥
    ended ends = goes_on (ends_step space c true ends)

    go : (b : Bool) → eqb c.ra 0 ≡ b → (o : Option Module) → module_at space.modules c.ra ≡ o → called_from space code c true ≡ None
    go true zero o holder = let is : c.ra ≡ 0 = grind (arith, nat_tests) in absurd (ended (inl is))
    go false some None holder = let is : c.ra ≢ 0 = grind (arith, nat_tests) in absurd (ended (inr (is, rw holder tt)))
    go false some (Some m) holder = rw (some, holder) refl

-- those in code without a table
pub code_is_somewhere : (space : SpaceValue) (code : List CodeValue) (c : Context) (interrupted : Bool) (range : CodeValue) → code_at code c.ra ≡ Some range → called_from space code c interrupted ≡ None
code_is_somewhere space code c interrupted range holds = rw holds (go (interrupted && ((c.ra == 0) || is_none (module_at space.modules c.ra))))
  where
    go : (b : Bool) → (if b && false then returned_caller space.image c else None) ≡ None
    go true = refl
    go false = refl
