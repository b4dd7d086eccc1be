-- A chain that is walked by its modules' tables, call by call.
use Rattle.std.specs.Prelude.{◌≡◌, ◌≢◌, ℕ, ◌-◌, ◌<◌, false, List, [], ◌∷◌, Some, Ok, IsTrue}
use Rattle.std.specs.List.{Contains}
use Rattle.unwind_definitions.specs.Entries.{Fde}
use Rattle.unwind_definitions.specs.Row.{RowInstructions, row_at, argument_size}
use Rattle.unwind_definitions.specs.Scan.{scan}
use Rattle.unwind_definitions.specs.Caller.{Columns, Evaluates}
use Rattle.unwind_definitions.specs.State.{State, IsState, Shows}
use Rattle.unwind_definitions.specs.Prologue.{SystemV, PrologueStep, steps_of}
use Rattle.unwind_definitions.specs.Entered.{IsEntered}
use Rattle.unwind_definitions.specs.Function.{Function, IsFunction, in_body}
use Rattle.unwind_definitions.specs.LanguageTable.{input_at}
use Rattle.unwind_definitions.specs.FrameTable.{DescribesFunction}
use Rattle.unwind_definitions.specs.Module.{Module, Process, in_module, frame_address, bases_of, DescribesModule, IsUncovered}
use Rattle.unwind_definitions.specs.Chain.{Call, IsEnd}
use Rattle.unwind_definitions.specs.Valid.{LiesInElf}
use Rattle.unwind_definitions.specs.Stopped.{StandsAfter}
use Rattle.unwind_laws.specs.Undoes.{Undoes}
use Rattle.unwind_laws.specs.Found.{FdeRead}

module _ (p : Process) where
  -- For an address, the module that it lies in describes functions by a frame table, where a scan finds a function's
  -- description, which has a row.
  pub record Finds (f : Function) (a : ℕ) : Type 0 where
    pub home : Module
    pub known : Contains p.modules home
    pub inside : IsTrue (in_module a home)
    pub frame : ℕ
    pub address : frame_address p.image home.tables ≡ Some frame
    pub part : List Function
    pub home_describes : DescribesModule p.image home part
    pub framed : home_describes.frame ≡ frame
    pub fde : Fde
    pub found : scan (bases_of home frame) (input_at p.image frame) a ≡ Ok fde
    pub no_signal : fde.cie.letters.signal ≡ false
    pub read : FdeRead (bases_of home frame) fde
    pub describes : DescribesFunction p.image (bases_of home frame) f fde
    pub run : RowInstructions
    pub has_row : row_at (bases_of home frame) fde a ≡ Ok run
    pub no_arguments : argument_size run ≡ 0

  -- By what is found for an address in a called function, the frame that columns show has a caller that shows a state.
  pub record Steps (evaluates : Evaluates) (columns : Columns) (a : ℕ) (c : Call) : Type 0 where
    pub finds : Finds c.callee a
    pub undoes : Undoes evaluates p.image finds.run c.caller columns

  -- what is asked of a call whose step is taken, at an address in the body of its function
  pub record CanStep (functions : List Function) (a : ℕ) (s : State) (c : Call) : Type 0 where
    pub is_function : IsFunction SystemV c.callee
    pub listed : Contains functions c.callee
    pub lies : LiesInElf p functions c.callee
    pub inside : IsTrue (in_body c.callee a)
    pub entered : IsEntered p.image c.callee.outermost (steps_of c.callee.prologue) c.caller s
    pub caller : IsState c.caller
    pub ends : IsTrue c.callee.outermost → c.caller.ra ≡ 0

  -- what is asked of a state that is stopped in the prologue of a described function
  pub record CanStepInside (functions : List Function) (done later : List PrologueStep) (s : State) (c : Call) : Type 0 where
    pub is_function : IsFunction SystemV c.callee
    pub inner : c.callee.outermost ≡ false
    pub listed : Contains functions c.callee
    pub lies : LiesInElf p functions c.callee
    pub stands : StandsAfter p.image c.callee done later c.caller s
    pub caller : IsState c.caller

  -- Columns that show a state, and step by step those of its callers, each by the address before the return address, up to
  -- the end of the stack; stack pointers strictly rise.
  abbrev pub IsElfWalk : Evaluates → List Function → Columns → State → List Call → Type 0
  IsElfWalk evaluates functions columns s [] = Shows columns s × IsEnd p.image (IsUncovered p) functions s
  IsElfWalk evaluates functions columns s (c ∷ calls) = Shows columns s × (s.ra ≢ 0) × (s.sp < c.caller.sp)
      × ((step : Steps evaluates columns (s.ra - 1) c) × IsElfWalk evaluates functions step.undoes.caller c.caller calls)
