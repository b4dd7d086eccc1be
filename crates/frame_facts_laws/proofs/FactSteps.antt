-- Tables that say facts at an address give the caller of a state that stands with them, and those that say a signal's frame there the
-- state that the signal interrupted.
use Rattle.std.proofs.Common.{◌≡◌, ℕ, Bool, true, false, Option, Result, Ok, Err, refl, ap, ◌∙◌}
use Rattle.std.specs.Prelude.{List, IsTrue}
use Rattle.std.specs.Option.{option_map_or}
use Rattle.std.specs.List.{Contains}
use Rattle.memory_image.specs.Image.{Span}
use Rattle.unwind_definitions.specs.declared.error.Error.{Error as Fault}
use Rattle.unwind_definitions.specs.declared.error.Error.TheVariants.{NoUnwindInfoForAddress}
use Rattle.unwind_definitions.specs.Entries.{Fde}
use Rattle.unwind_definitions.specs.Row.{RowInstructions, covers_pc, row_at}
use Rattle.unwind_definitions.specs.Scan.{fdes_of, scan}
use Rattle.unwind_definitions.specs.Caller.{Evaluates, Columns}
use Rattle.unwind_definitions.specs.State.{State, IsState, Shows}
use Rattle.unwind_definitions.specs.LanguageTable.{input_at}
use Rattle.unwind_definitions.specs.Module.{Module, Process, in_module, bases_of}
use Rattle.unwind_laws.proofs.Scanned.{scan_is}
use Rattle.unwind_laws.proofs.Signal.{fde_read}
use Rattle.unwind_laws.proofs.Found.{found_first}
use Rattle.frame_facts.specs.Facts.{Facts, StandsWith}
use Rattle.frame_facts.specs.FactTables.{HasTables, SaysFactsAt, AreSaidAt}
use Rattle.frame_facts.specs.SignalFrames.{SignalFrame, StandsInSignal, SaysSignalFrameAt, IsSignalFrameAt}
use Rattle.frame_facts_laws.specs.FactWalks.{FindsRow, StepsOut}
use Rattle.frame_facts_laws.specs.SignalSteps.{HasGeneralRegisters, StepsToInterrupted}
use Rattle.frame_facts_laws.proofs.RowUndone.{said_undone}
use Rattle.frame_facts_laws.proofs.SignalUndone.{interrupted_given}

-- a scan finds the description that contains an address
pub finds_listed : (image : List Span) (m : Module) (tables : HasTables image m) (fde : Fde) (a : ℕ) → Contains (fdes_of tables.entries) fde → covers_pc fde a ≡ true →
    scan (bases_of m tables.frame) (input_at image tables.frame) a ≡ Ok fde
finds_listed image m tables fde a listed covers =
    scan_is (bases_of m tables.frame) (input_at image tables.frame) a tables.entries refl tables.frames.reads
    ∙ ap (λ (o : Option Fde). option_map_or (λ (x : Fde). ok x) o (Err NoUnwindInfoForAddress)) (found_first (fdes_of tables.entries) fde a tables.apart listed covers)
  where
    ok : Fde → Result Fde Fault
    ok x = Ok x

module _ (p : Process) where
  -- a description of a module's table that contains an address, and has a row there
  abbrev found_listed : (signal : Bool) (a : ℕ) (m : Module) (tables : HasTables p.image m) (fde : Fde) → Contains p.modules m → IsTrue (in_module a m) → Contains (fdes_of tables.entries) fde → covers_pc fde a ≡ true →
      fde.cie.letters.signal ≡ signal → (run : RowInstructions) → row_at (bases_of m tables.frame) fde a ≡ Ok run → FindsRow p signal a
  found_listed signal a m tables fde known inside listed covers marked run row = record {
    home = m;
    known = known;
    inside = inside;
    tables = tables;
    fde = fde;
    found = finds_listed p.image m tables fde a listed covers;
    marked = marked;
    read = fde_read (bases_of m tables.frame) (input_at p.image tables.frame) 0 tables.entries fde tables.frames.reads listed;
    run = run;
    has_row = row;
  }

  abbrev pub row_found : (a : ℕ) (facts : Facts) → AreSaidAt p a facts → FindsRow p false a
  row_found a facts said =
      let says : SaysFactsAt p.image said.home a facts = said.says in
      found_listed false a said.home says.tables says.fde said.known said.inside says.listed says.covers says.unmarked says.row.0 says.row.1

  abbrev pub signal_found : (a : ℕ) (frame : SignalFrame) → IsSignalFrameAt p a frame → FindsRow p true a
  signal_found a frame said =
      let says : SaysSignalFrameAt p.image said.home a frame = said.says in
      found_listed true a said.home says.tables says.fde said.known said.inside says.listed says.covers says.marked says.row.0 says.row.1

  -- The step out of a frame at whose address facts are said.
  abbrev pub steps_out : (evaluates : Evaluates) (a : ℕ) (facts : Facts) (s t : State) (columns : Columns) → AreSaidAt p a facts → StandsWith p.image facts t s → IsState t → Shows columns s → StepsOut p evaluates columns a t
  steps_out evaluates a facts s t columns said stands words shows =
      record { finds = row_found a facts said; undoes = said_undone evaluates p.image facts said.says.row.0 s t columns said.says.row.2 stands words shows }

  -- The step out of a signal's frame.
  abbrev pub steps_to_interrupted : (a : ℕ) (frame : SignalFrame) (s t : State) (columns : Columns) → IsSignalFrameAt p a frame → StandsInSignal p.image frame t s → Shows columns s → HasGeneralRegisters columns → StepsToInterrupted p columns a t
  steps_to_interrupted a frame s t columns said stands shows general =
      record { finds = signal_found a frame said; gives = interrupted_given p.image frame said.says.row.0 s t columns said.says.row.2 stands shows general }
