-- The step from a state that was stopped in a described function.
use Rattle.std.proofs.Common.{◌≢◌, true, List, refl, inl, inr}
use Rattle.std.specs.Prelude.{◌⊎◌, IsFalse}
use Rattle.std.specs.List.{Contains}
use Rattle.memory_image.specs.Image.{IsLaidOut}
use Rattle.unwind_definitions.specs.State.{State, IsState, Shows}
use Rattle.unwind_definitions.specs.Prologue.{SystemV, steps_of}
use Rattle.unwind_definitions.specs.Function.{Function, IsFunction}
use Rattle.unwind_definitions.specs.Chain.{Call}
use Rattle.unwind_definitions.specs.Module.{Process}
use Rattle.unwind_definitions.specs.Valid.{LiesInElf}
use Rattle.unwind_laws.specs.Walked.{CanStep, CanStepInside}
use Rattle.frame_facts.specs.Facts.{Facts, StandsWith}
use Rattle.frame_facts.specs.FactTables.{AreSaidAt}
use Rattle.frame_facts.specs.StepFacts.{body_facts, facts_in_prologue}
use Rattle.frame_facts_laws.proofs.FromFunctions.{body_known, body_said, inside_known, inside_said}
use Rattle.unwind_arch.specs.declared.x86_64.Context.{Context}
use Rattle.unwind_arch.specs.ContextViews.{columns_of}
use Rattle.stack_steps.specs.Modules.{SpaceValue, AreApart}
use Rattle.stack_steps.specs.SpaceViews.{process_of}
use Rattle.stack_steps.specs.Stepping.{step_of}
use Rattle.stack_steps.specs.Undoing.{Undone}
use Rattle.format_definitions.specs.Stops.{StandsInPrologue, StandsInBody}
use Rattle.stack_steps.proofs.FactSteps.{facts_undone}

-- A stop in a function that one of the ELF modules of a process describes.
pub record IsElfStop (p : Process) (functions : List Function) (s : State) (c : Call) : Type 0 where
  pub is_function : IsFunction SystemV c.callee
  pub inner : IsFalse c.callee.outermost
  pub listed : Contains functions c.callee
  pub lies : LiesInElf p functions c.callee
  pub returns : s.ra ≢ 0
  pub stands : StandsInPrologue p.image s c ⊎ StandsInBody p.image s c
  pub caller : IsState c.caller

-- What is known where a described function was stopped: by the steps that have run in its prologue, or in its body.
module _ (space : SpaceValue) (s : State) (call : Call) (functions : List Function) (is : IsElfStop (process_of space) functions s call) where
  pub record HasFacts : Type 0 where
    pub facts : Facts
    pub said : AreSaidAt (process_of space) s.ra facts
    pub stands : StandsWith space.image facts call.caller s

  pub stop_facts : HasFacts
  stop_facts = go is.stands
    where
      early_can : (p : StandsInPrologue space.image s call) → CanStepInside (process_of space) functions p.done p.later s call
      early_can p = record { is_function = is.is_function; inner = is.inner; listed = is.listed; lies = is.lies; stands = p.stands; caller = is.caller }

      body_can : StandsInBody space.image s call → CanStep (process_of space) functions s.ra s call
      body_can b = record { is_function = is.is_function; listed = is.listed; lies = is.lies; inside = b.inside; entered = b.entered; caller = is.caller; ends = λ outer. let inner = is.inner in absurd cc }

      go : StandsInPrologue space.image s call ⊎ StandsInBody space.image s call → HasFacts
      go (inl p) = record {
        facts = facts_in_prologue (steps_of p.done);
        said = inside_said (process_of space) functions p.done p.later s call (early_can p);
        stands = inside_known (process_of space) functions p.done p.later s call (early_can p);
      }
      go (inr b) = record {
        facts = body_facts call.callee;
        said = body_said (process_of space) functions s.ra s call (body_can b);
        stands = body_known (process_of space) functions s.ra s call (body_can b);
      }

-- The step answers its caller.
pub stopped_undone : (space : SpaceValue) (c : Context) (s : State) (call : Call) → AreApart 0 space.modules → IsLaidOut 0 space.image → s.ra ≢ 0 → Shows (columns_of c) s →
    (functions : List Function) → IsElfStop (process_of space) functions s call → Undone (step_of space c true) (columns_of c) call.caller
stopped_undone space c s call apart laid some shows functions is =
    let known : HasFacts space s call functions is = stop_facts space s call functions is in
    facts_undone space c true s call.caller apart laid some refl shows known.facts is.caller known.said known.stands
