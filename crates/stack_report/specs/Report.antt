-- The texts of a delivery and of a walk.
use Rattle.std.specs.Prelude.{ℕ, ◌+◌, List, [], ◌∷◌, ◌++◌, Option, Some, None, codes}
use Rattle.std.specs.Fmt.{decimal}
use Rattle.unwind_definitions.specs.State.{State}
use Rattle.unwind_definitions.specs.Delivery as described
use Rattle.unwind_arch.specs.declared.x86_64.Context.{Context}
use Rattle.stack_walks.specs.declared.room.Trail.{Trail}
use Rattle.stack_deliver.specs.declared.outcome.Outcome.{Outcome}
use Rattle.stack_deliver.specs.StackDelivery.{DeliveryValue}
use Rattle.stack_deliver.specs.StateViews.{state_of, landing_of, outcome_of, pair_of}
use Rattle.stack_report.specs.Digits.{hexadecimal}

-- a text and a line feed
abbrev pub line : List ℕ → List ℕ
line text = text ++ 10 ∷ []

-- the return address, the stack pointer and the six registers that calls keep
unfoldable pub state_fields : State → List ℕ
state_fields s = codes " ra=" ++ hexadecimal s.ra ++ codes " sp=" ++ hexadecimal s.sp ++ codes " rbx=" ++ hexadecimal s.rbx ++ codes " rbp=" ++ hexadecimal s.rbp
    ++ codes " r12=" ++ hexadecimal s.r12 ++ codes " r13=" ++ hexadecimal s.r13 ++ codes " r14=" ++ hexadecimal s.r14 ++ codes " r15=" ++ hexadecimal s.r15

-- a visited state with its number
unfoldable pub state_line : ℕ → State → List ℕ
state_line i s = line (codes "frame " ++ decimal i ++ state_fields s)

-- a cleanup that ran: its landing pad and the stack pointer that was installed
unfoldable pub pad_line : ℕ × ℕ → List ℕ
pad_line p = line (codes "cleanup pad=" ++ hexadecimal p.0 ++ codes " sp=" ++ hexadecimal p.1)

-- the state at the handler, with the two words for it
unfoldable pub handler_line : described.Landing → List ℕ
handler_line l = line (codes "landing" ++ state_fields l.state ++ codes " rax=" ++ hexadecimal l.rax ++ codes " rdx=" ++ hexadecimal l.rdx)

abbrev pub handler_lines : Option described.Landing → List ℕ
handler_lines None = []
handler_lines (Some l) = handler_line l

abbrev pub ending_name : described.Outcome → List ℕ
ending_name described.Installed = codes "installed"
ending_name described.EndOfStack = codes "end of stack"
ending_name described.FatalPhase1 = codes "fatal phase 1"
ending_name described.FatalPhase2 = codes "fatal phase 2"

abbrev pub ending_line : described.Outcome → List ℕ
ending_line o = line (codes "outcome " ++ ending_name o)

-- a line for each state, with its number from i on
abbrev pub state_lines : ℕ → List State → List ℕ
state_lines i [] = []
state_lines i (s ∷ ss) = state_line i s ++ state_lines (i + 1) ss

abbrev pub pad_lines : List (ℕ × ℕ) → List ℕ
pad_lines [] = []
pad_lines (p ∷ ps) = pad_line p ++ pad_lines ps

-- What is written of a delivery.
abbrev pub delivery_text : described.Delivery → List ℕ
delivery_text d = state_lines 0 d.visited ++ pad_lines d.trail ++ handler_lines d.landing ++ ending_line d.outcome

abbrev pub end_line : List ℕ
end_line = line (codes "end")

-- What is written of a walk's states.
abbrev pub walk_text : List State → List ℕ
walk_text states = state_lines 0 states ++ end_line

-- ---- the same of what the code holds

unfoldable pub fields_text : Context → List ℕ
fields_text c = state_fields (state_of c)

unfoldable pub frame_line : ℕ → Context → List ℕ
frame_line i c = state_line i (state_of c)

unfoldable pub cleanup_line : Trail → List ℕ
cleanup_line t = pad_line (pair_of t)

unfoldable pub landing_line : Context → List ℕ
landing_line c = handler_line (landing_of c)

abbrev pub landing_lines : Option Context → List ℕ
landing_lines None = []
landing_lines (Some c) = landing_line c

abbrev pub outcome_name : Outcome → List ℕ
outcome_name o = ending_name (outcome_of o)

abbrev pub outcome_line : Outcome → List ℕ
outcome_line o = ending_line (outcome_of o)

-- a line for each state, with its number from i on
abbrev pub frame_lines : ℕ → List Context → List ℕ
frame_lines i [] = []
frame_lines i (s ∷ ss) = frame_line i s ++ frame_lines (i + 1) ss

abbrev pub cleanup_lines : List Trail → List ℕ
cleanup_lines [] = []
cleanup_lines (t ∷ ts) = cleanup_line t ++ cleanup_lines ts

-- what is written of a delivery
abbrev pub report_of : DeliveryValue → List ℕ
report_of d = frame_lines 0 d.visited ++ cleanup_lines d.trail ++ landing_lines d.landing ++ outcome_line d.outcome

-- what is written of a walk
abbrev pub walk_report_of : List Context → List ℕ
walk_report_of visited = frame_lines 0 visited ++ end_line
