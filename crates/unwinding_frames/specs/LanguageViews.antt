-- What the code reads of language tables, in the words of the definitions.
use Rattle.std.specs.Prelude.{◌≡◌, Result, Ok, Err}
use Rattle.std.specs.Result.{result_map_both}
use Rattle.unwind_definitions.specs.Faults.{◌>>=◌}
use Rattle.unwind_definitions.specs.Input.{Input, Reads}
use Rattle.unwind_definitions.specs.Function as functions
use Rattle.unwind_definitions.specs.LanguageTable.{types}
use Rattle.unwind_definitions.specs.LanguageSearch as tables
use Rattle.unwind_definitions.specs.Caller.{StepFault}
use Rattle.encoded_pointers.specs.CursorViews.{at}
use Rattle.unwinding_frames.specs.declared.frame.StepError.{StepError}
use Rattle.unwinding_frames.specs.declared.language_table.EhAction.{EhAction}
use Rattle.unwinding_frames.specs.declared.language_table.EhAction.TheVariants as code
use Rattle.unwinding_frames.specs.declared.language_table.CallSite.{CallSite}
use Rattle.unwinding_frames.specs.declared.language_table.LanguageTable.{LanguageTable}
use Rattle.unwinding_frames.specs.Calling.{fault_of}

abbrev pub action_of : EhAction → functions.Action
action_of code.None = functions.NoAction
action_of (code.Cleanup pad) = functions.Cleanup pad
action_of (code.Catch pad) = functions.Catch pad
action_of (code.Filter pad) = functions.Filter pad
action_of code.Terminate = functions.Terminate

abbrev pub site_of : CallSite → tables.CallSite
site_of s = record { from = s.from; size = s.len; pad = s.pad; index = s.index }

abbrev pub head_of : LanguageTable → tables.Head
head_of t = record { pad_base = t.pad_base; site_encoding = t.site_encoding.0; sites = at t.sites; actions = at t.actions }

-- An answer, seen by a view, or a fault, as the code gives it.
abbrev pub answer_seen : {A B : Type 0} → (A → B) → Result A StepError → Result B StepFault
answer_seen view = result_map_both view fault_of

-- From one place a reader gives a value, seen by a view, and the next place; or a fault. The place after a fault is unspecified.
abbrev pub GivesOr : {A B : Type 0} → (A → B) → Result A StepError → Result (B × Input) StepFault → Input → Type 0
GivesOr view (Ok x) read new = read ≡ Ok (view x, new)
GivesOr view (Err e) read new = read ≡ Err (fault_of e)

-- the types' encoding and number are passed
abbrev pub passes_types : Reads (Unit {0})
passes_types c = types c >>= λ t. Ok (tt, t.1)
