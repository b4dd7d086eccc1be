-- What it is to undo a call of a function in a module of whatever format.
use Rattle.std.specs.Prelude.{◌≡◌, ◌≢◌, ℕ, ◌-◌, ◌<◌, List, [], ◌∷◌, IsTrue}
use Rattle.std.specs.List.{Contains}
use Rattle.memory_image.specs.Image.{Span}
use Rattle.unwind_definitions.specs.Expressions.{evaluation}
use Rattle.unwind_definitions.specs.Caller.{Columns}
use Rattle.unwind_definitions.specs.State.{State, IsState, Shows}
use Rattle.unwind_definitions.specs.Prologue.{steps_of}
use Rattle.unwind_definitions.specs.Entered.{IsEntered}
use Rattle.unwind_definitions.specs.Function.{Function, in_body}
use Rattle.unwind_definitions.specs.Chain.{Call, IsEnd}
use Rattle.unwind_laws.specs.Walked.{Steps}
use Rattle.format_definitions.specs.CompactStep.{macho_step}
use Rattle.format_definitions.specs.PeStep.{pe_step}
use Rattle.format_definitions.specs.Modules.{FormatModule, Elf, Macho, Pe, IsUncoveredBy, LiesDescribed}
use Rattle.format_laws.specs.CompactUndone.{MachoUndone}
use Rattle.format_laws.specs.PeUndone.{CallUndone}

module _ (image : List Span) where
  -- By the data of a module, the frame that columns show at an address has a caller that shows a state.
  abbrev pub FormatUndone : FormatModule → Columns → ℕ → Call → Type 0
  FormatUndone (Elf m) columns a c = Steps (record { image = image; modules = m ∷ [] }) (evaluation image) columns a c
  FormatUndone (Macho m) columns a c = MachoUndone (macho_step image m (a - m.base) columns) columns c.caller
  FormatUndone (Pe m) columns a c = CallUndone (pe_step image m (a - m.base) columns) columns c.caller

  -- the caller's columns
  abbrev pub columns_after : (home : FormatModule) (columns : Columns) (a : ℕ) (c : Call) → FormatUndone home columns a c → Columns
  columns_after (Elf m) columns a c u = u.undoes.caller
  columns_after (Macho m) columns a c u = u.caller
  columns_after (Pe m) columns a c u = u.caller

  module _ (modules : List FormatModule) where
    -- what is asked of a call whose step is taken, at an address in the body of its function
    pub record CanUndo (functions : List Function) (a : ℕ) (s : State) (c : Call) : Type 0 where
      pub listed : Contains functions c.callee
      pub lies : LiesDescribed image modules functions c.callee
      pub inside : IsTrue (in_body c.callee a)
      pub entered : IsEntered image c.callee.outermost (steps_of c.callee.prologue) c.caller s
      pub caller : IsState c.caller
      pub ends : IsTrue c.callee.outermost → c.caller.ra ≡ 0

    -- Columns that show a state, and step by step those of its callers, each by the module that its function lies in, up to the
    -- end of the stack; stack pointers strictly rise.
    abbrev pub IsWalk : List Function → Columns → State → List Call → Type 0
    IsWalk functions columns s [] = Shows columns s × IsEnd image (IsUncoveredBy image modules) functions s
    IsWalk functions columns s (c ∷ calls) = Shows columns s × (s.ra ≢ 0) × (s.sp < c.caller.sp)
        × ((lies : LiesDescribed image modules functions c.callee) × (step : FormatUndone lies.home columns (s.ra - 1) c)
        × IsWalk functions (columns_after lies.home columns (s.ra - 1) c step) c.caller calls)
