-- The frame at a context of a function that a module describes, and its caller. `ElfFrames`, `MachoFrames` and `PeFrames` have it.
use Rattle.std.proofs.Common.{◌≡◌, ℕ, ◌-◌, ◌^◌, ◌<◌, Bool, false, eqb, Some, Result, Ok, Err, refl}
use Rattle.unwind_definitions.specs.State.{State, Shows}
use Rattle.unwind_definitions.specs.Function.{Function, action_at}
use Rattle.unwind_definitions.specs.LanguageSearch.{address_of_call}
use Rattle.unwind_definitions.specs.Chain.{Call}
use Rattle.unwind_arch.specs.declared.x86_64.Context.{Context}
use Rattle.unwind_arch.specs.ContextViews.{columns_of}
use Rattle.format_definitions.specs.Modules.{FormatModule, KeepsIn}
use Rattle.format_frames.specs.declared.machine.Stepped.{Stepped}
use Rattle.stack_steps.specs.declared.error.DeliverError.{DeliverError}
use Rattle.stack_steps.specs.declared.space.Module.{Module}
use Rattle.stack_steps.specs.declared.space.ModuleTables.{ModuleTables}
use Rattle.stack_steps.specs.Asking.{action_asked, arguments_of}
use Rattle.stack_steps.specs.Frames.{FrameAt}
use Rattle.stack_steps.specs.Modules.{SpaceValue, module_at}
use Rattle.stack_steps.specs.Stepping.{frame_by_tables, frame_of, caller_by}
use Rattle.stack_steps.proofs.ContextLemmas.{IsWhole}
use Rattle.stack_steps.proofs.StepParts.{some_next}

-- the frame that a context shows of a called function, what its language asks, and its caller
pub record Met (space : SpaceValue) (c : Context) (s : State) (call : Call) : Type 0 where
  pub frame : FrameAt
  pub framed : frame_of space c false ≡ Ok (Some frame)
  pub asks : action_asked space.image c false frame ≡ Ok (action_at call.callee (s.ra - 1))
  pub no_arguments : arguments_of frame ≡ 0
  pub next : Stepped
  pub called : caller_by space.image c frame ≡ Ok next
  pub unmarked : next.signal ≡ false
  pub shows : Shows (columns_of next.context) call.caller
  pub whole : IsWhole next.context
  pub address : s.ra < 2 ^ 64

-- the frame that a context shows of a function in a module, which asks what the function does, and its caller
pub record FormatFrame (space : SpaceValue) (c : Context) (interrupted : Bool) (home : FormatModule) (f : Function) (a : ℕ) (t : State) : Type 0 where
  pub frame : FrameAt
  pub framed : frame_of space c interrupted ≡ Ok (Some frame)
  pub asks : f.end < 2 ^ 64 → action_asked space.image c interrupted frame ≡ Ok (action_at f a)
  pub no_arguments : arguments_of frame ≡ 0
  pub next : Stepped
  pub called : caller_by space.image c frame ≡ Ok next
  pub unmarked : next.signal ≡ false
  pub shows : Shows (columns_of next.context) t
  pub others : KeepsIn home (columns_of c) (columns_of next.context)
  pub whole : IsWhole next.context

-- ---- the frame by the module that holds the address asked

pub held_frame : (space : SpaceValue) (c : Context) (interrupted : Bool) (a : ℕ) (m : Module) (tables : ModuleTables) → eqb c.ra 0 ≡ false → address_of_call c.ra interrupted ≡ a → module_at space.modules a ≡ Some m → m.tables ≡ tables →
    frame_of space c interrupted ≡ frame_by_tables space.image a m tables
unfolding frame_of
held_frame space c interrupted a m tables nonzero asked holds is = rw (nonzero, asked, holds, is) refl

-- a frame from which a step goes to a caller has that caller
pub called_by : (next : Stepped) (r : Result Stepped DeliverError) → some_next r ≡ Ok (Some next) → r ≡ Ok next
called_by next (Ok n) e = cc
called_by next (Err x) e = absurd cc
