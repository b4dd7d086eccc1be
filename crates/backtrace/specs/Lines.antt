-- The lines of a backtrace.
use Rattle.std.specs.Prelude.{ℕ, ◌+◌, ◌-◌, ◌%◌, ◌^◌, ◌==◌, ◌&&◌, Bool, false, List, [], ◌∷◌, ◌++◌, length, map, Option, Some, None, codes, nat_lt, is_some, if◌then◌else◌}
use Rattle.std.specs.Option.{option_to_list}
use Rattle.std.specs.Fmt.{decimal}
use Rattle.unwind_definitions.specs.State.{State}
use Rattle.unwind_definitions.specs.declared.error.Error.{Error}
use Rattle.unwind_definitions.specs.LanguageSearch.{address_of_call}
use Rattle.unwind_arch.specs.declared.x86_64.Context.{Context}
use Rattle.stack_walks.specs.declared.walk_end.EndReason.{EndReason}
use Rattle.stack_walks.specs.declared.walk_end.EndReason.TheVariants.{Outermost, NoModule, NoDescription, UnreadableTable, Refused, Limit}
use Rattle.stack_deliver.specs.StateViews.{state_of}
use Rattle.stack_snapshot.specs.Origins.{OriginValue, origin_at, file_name}
use Rattle.stack_report.specs.Digits.{hexadecimal, word}
use Rattle.stack_report.specs.Refusals.{error_name, refusal_text}
use Rattle.stack_report.specs.Report.{line}
use Rattle.backtrace.specs.Code.{CodeValue, PlacesValue, code_at}
use Rattle.backtrace.specs.Tracing.{TraceValue}

-- ---- where an address lies

-- the address in a file: what was added to the file's addresses is taken off
abbrev pub offset_in : OriginValue → ℕ → ℕ
offset_in o a = (a + (2 ^ 64 - o.bias)) % 2 ^ 64

abbrev pub origin_text : Option OriginValue → ℕ → List ℕ
origin_text None a = []
origin_text (Some o) a = codes " in " ++ file_name o.path ++ codes "+" ++ hexadecimal (offset_in o a)

-- an address, and its file and place in it, by the module that holds another address of the same instruction
unfoldable pub place_text : List OriginValue → ℕ → ℕ → List ℕ
place_text origins a inside = word a ++ origin_text (origin_at origins inside) a

-- ---- frames

-- What the lines say beside the states: registers too, whether the first state was interrupted, whether the second was read
-- from the stack, the number of the one to which a frame pointer led, if one did, whether popped registers were kept at the first,
-- and which files and code the snapshot names.
pub record FormValue : Type 0 where
  pub registers : Bool
  pub interrupted : Bool
  pub called : Bool
  pub pointed : Option ℕ
  pub popped : Bool
  pub places : PlacesValue

-- the frame's number, in two places at least
abbrev pub gap_text : ℕ → List ℕ
gap_text i = if nat_lt i 10 then codes "  " else codes " "

abbrev pub number_text : ℕ → List ℕ
number_text i = codes "#" ++ decimal i ++ gap_text i

-- the stack pointer and the registers that calls keep
unfoldable pub kept_text : State → List ℕ
kept_text s = codes " sp=" ++ hexadecimal s.sp ++ codes " rbx=" ++ hexadecimal s.rbx ++ codes " rbp=" ++ hexadecimal s.rbp
    ++ codes " r12=" ++ hexadecimal s.r12 ++ codes " r13=" ++ hexadecimal s.r13 ++ codes " r14=" ++ hexadecimal s.r14 ++ codes " r15=" ++ hexadecimal s.r15

-- an address of the frame's instruction: its own where the thread was interrupted there, else a byte of the call before it
abbrev pub inside_of : FormValue → ℕ → State → ℕ
inside_of form i s = address_of_call s.ra (form.interrupted && (i == 0))

-- what marks a frame that no table leads to
abbrev pub pointed_mark : Option ℕ → ℕ → List ℕ
pointed_mark None i = []
pointed_mark (Some n) i = if n == i then codes " (a guess, by the frame pointer)" else []

abbrev pub guess_text : FormValue → ℕ → List ℕ
guess_text form i = if form.called && (i == 1) then codes " (return address on the stack)" else pointed_mark form.pointed i

-- what marks the frame that was interrupted after registers were popped, which were kept
abbrev pub mark_text : FormValue → ℕ → List ℕ
mark_text form i = if form.popped && (i == 0) then codes " (popped registers kept)" else guess_text form i

abbrev pub registers_text : FormValue → State → List ℕ
registers_text form s = if form.registers then kept_text s else []

unfoldable pub rest_text : FormValue → ℕ → State → List ℕ
rest_text form i s = mark_text form i ++ registers_text form s

unfoldable pub frame_line : FormValue → ℕ → State → List ℕ
frame_line form i s = line (number_text i ++ place_text form.places.origins s.ra (inside_of form i s) ++ rest_text form i s)

-- the state outside of the outermost frame, whose return address is 0, is no frame
abbrev pub frame_text : FormValue → ℕ → State → List ℕ
frame_text form i s = if (s.ra == 0) && nat_lt 0 i then [] else frame_line form i s

-- a line for each frame, with its number from i on
abbrev pub frame_lines : FormValue → ℕ → List State → List ℕ
frame_lines form i [] = []
frame_lines form i (s ∷ ss) = frame_text form i s ++ frame_lines form (i + 1) ss

-- ---- why there are no more

unfoldable pub no_module_text : ℕ → List ℕ
no_module_text a = codes "no module holds " ++ word a

-- the name of a file, where there is one
abbrev pub name_text : List ℕ → List ℕ
name_text [] = []
name_text (b ∷ bs) = codes " in " ++ (b ∷ bs)

unfoldable pub code_text : CodeValue → ℕ → List ℕ
code_text c a = codes "code without a table at " ++ word a ++ name_text (file_name c.path)

-- of an address that no module holds: whether it lies in code without a table
abbrev pub unheld_text : Option CodeValue → ℕ → List ℕ
unheld_text None a = no_module_text a
unheld_text (Some c) a = code_text c a

unfoldable pub undescribed_text : List OriginValue → ℕ → List ℕ
undescribed_text origins a = codes "no description of " ++ place_text origins a a

-- so many bytes of a frame table stand before an entry that can't be read
unfoldable pub unread_text : ℕ → Error → List ℕ
unread_text offset e = codes ", since the entry at " ++ hexadecimal offset ++ codes " of its frame table can't be read: " ++ error_name e

unfoldable pub limit_text : List ℕ
limit_text = codes "more frames than the limit"

-- why a walk goes no further
abbrev pub why_text : PlacesValue → EndReason → List ℕ
why_text places Outermost = codes "the outermost frame, which returns to 0"
why_text places (NoModule a) = unheld_text (code_at places.code a) a
why_text places (NoDescription a) = undescribed_text places.origins a
why_text places (UnreadableTable a offset e) = undescribed_text places.origins a ++ unread_text offset e
why_text places (Refused a e) = codes "no caller of " ++ place_text places.origins a a ++ codes ": " ++ refusal_text e
why_text places Limit = limit_text

abbrev pub end_line : PlacesValue → EndReason → List ℕ
end_line places why = line (codes "end: " ++ why_text places why)

-- ---- the whole text

-- What is written of states from the innermost outwards: a line for each frame, and last why there are no more.
unfoldable pub states_text : FormValue → List State → EndReason → List ℕ
states_text form states why = frame_lines form 0 states ++ end_line form.places why

-- all contexts of a trace, from the start outwards
abbrev pub contexts_of : TraceValue → List Context
contexts_of t = option_to_list t.first ++ t.states

-- what they show of states
abbrev pub shown_states : List Context → List State
shown_states cs = map state_of cs

abbrev pub form_with : Bool → Bool → PlacesValue → (called popped : Bool) → FormValue
form_with registers interrupted places called popped =
    record { registers = registers; interrupted = interrupted; called = called; pointed = None; popped = popped; places = places }

abbrev pub form_of : Bool → Bool → PlacesValue → TraceValue → FormValue
form_of registers interrupted places t = form_with registers interrupted places (is_some t.first) t.popped

-- What is written of a trace: by whether registers are asked for, whether its start was interrupted, and what the snapshot names.
unfoldable pub backtrace_text : Bool → Bool → PlacesValue → TraceValue → List ℕ
backtrace_text registers interrupted places t = states_text (form_of registers interrupted places t) (shown_states (contexts_of t)) t.why

-- ---- the whole text with walks by frame pointers

-- the same of states of which the first, with this number, is the one to which a frame pointer led
abbrev pub pointed_form : FormValue → ℕ → FormValue
pointed_form form n = record { registers = form.registers; interrupted = false; called = false; pointed = Some n; popped = false; places = form.places }

-- The lines of walks, one after another, that begin with such states, and last why the last of them goes no further, or for this
-- reason where there are none.
abbrev pub pointed_text : FormValue → ℕ → EndReason → List TraceValue → List ℕ
pointed_text form n why [] = end_line form.places why
pointed_text form n why (t ∷ ts) = frame_lines (pointed_form form n) n (shown_states t.states) ++ pointed_text form (n + length t.states) t.why ts

-- What is written of a trace and of the walks that go on from it. Of a trace alone it is `backtrace_text`.
unfoldable pub traces_text : Bool → Bool → PlacesValue → TraceValue → List TraceValue → List ℕ
traces_text registers interrupted places t ts =
    frame_lines (form_of registers interrupted places t) 0 (shown_states (contexts_of t))
    ++ pointed_text (form_of registers interrupted places t) (length (contexts_of t)) t.why ts

-- ---- the whole text of threads

-- the number of a thread, before its backtrace
unfoldable pub thread_line : ℕ → List ℕ
thread_line index = line (codes "thread " ++ decimal index)

-- ---- the lines in its place

abbrev pub usage_line : List ℕ
usage_line = line (codes "usage: backtrace [--registers] [--samples] [--frame-pointers]")
