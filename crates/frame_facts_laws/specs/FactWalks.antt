-- A chain of facts that is walked by its modules' tables, state by state. DWARF 5 section 6.4.4.
use Rattle.std.specs.Prelude.{◌≡◌, ◌≢◌, ℕ, ◌<◌, Bool, false, List, [], ◌∷◌, Option, None, Ok, IsTrue}
use Rattle.std.specs.List.{Contains}
use Rattle.unwind_definitions.specs.Entries.{Fde}
use Rattle.unwind_definitions.specs.Row.{RowInstructions, row_at}
use Rattle.unwind_definitions.specs.Scan.{scan}
use Rattle.unwind_definitions.specs.Caller.{Columns, Evaluates}
use Rattle.unwind_definitions.specs.State.{State, Shows}
use Rattle.unwind_definitions.specs.Function.{Action, NoAction}
use Rattle.unwind_definitions.specs.LanguageTable.{input_at}
use Rattle.unwind_definitions.specs.LanguageSearch.{personality_address, language_action}
use Rattle.unwind_definitions.specs.Module.{Module, Process, in_module, bases_of}
use Rattle.unwind_laws.specs.Undoes.{Undoes}
use Rattle.unwind_laws.specs.Found.{FdeRead}
use Rattle.frame_facts.specs.Facts.{Facts}
use Rattle.frame_facts.specs.FactTables.{HasTables, AreSaidAt}
use Rattle.frame_facts.specs.FactChains.{FactFrame, address_asked, IsFactEnd}

module _ (p : Process) where
  -- The module that holds an address has tables, where a scan finds a description for it, which has a row there. The mark says whether
  -- it is one of a signal's frame.
  pub record FindsRow (signal : Bool) (a : ℕ) : Type 0 where
    pub home : Module
    pub known : Contains p.modules home
    pub inside : IsTrue (in_module a home)
    pub tables : HasTables p.image home
    pub fde : Fde
    pub found : scan (bases_of home tables.frame) (input_at p.image tables.frame) a ≡ Ok fde
    pub marked : fde.cie.letters.signal ≡ signal
    pub read : FdeRead (bases_of home tables.frame) fde
    pub run : RowInstructions
    pub has_row : row_at (bases_of home tables.frame) fde a ≡ Ok run

  -- By what is found for an address, the columns of a frame there have a caller, which shows a state.
  pub record StepsOut (evaluates : Evaluates) (columns : Columns) (a : ℕ) (t : State) : Type 0 where
    pub finds : FindsRow false a
    pub undoes : Undoes evaluates p.image finds.run t columns

  -- Columns that show a state, and step by step those of its callers, up to the end of the stack; stack pointers strictly rise.
  abbrev pub IsFactWalk : Evaluates → Bool → Columns → State → List FactFrame → Type 0
  IsFactWalk evaluates interrupted columns s [] = Shows columns s × IsFactEnd p interrupted s
  IsFactWalk evaluates interrupted columns s (f ∷ frames) = Shows columns s × (s.ra ≢ 0) × (s.sp < f.caller.sp)
      × ((step : StepsOut evaluates columns (address_asked interrupted s) f.caller) × IsFactWalk evaluates false step.undoes.caller f.caller frames)

-- The description that says facts at an address names a personality where anything is asked there, and its language table asks that.
pub record DescriptionAsks (p : Process) (a : ℕ) (facts : Facts) (said : AreSaidAt p a facts) (action : Action) : Type 0 where
  pub routine : Option ℕ
  pub personality : personality_address p.image said.says.fde ≡ Ok routine
  pub silent : routine ≡ None → action ≡ NoAction
  pub asks : language_action p.image (bases_of said.home said.says.tables.frame) said.says.fde a ≡ Ok action
