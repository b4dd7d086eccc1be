-- What the steps of a prologue make known: in the body after them, inside the prologue, and in an outermost function.
-- System V x86-64 psABI, section 3.2.2.
use Rattle.std.specs.Prelude.{ℕ, Bool, true, false, not, ◌||◌, List, [], ◌∷◌, map, Option, Some, None, is_some, if◌then◌else◌}
use Rattle.std.specs.List.{filter, filter_map}
use Rattle.std.specs.Option.{option_map, option_map_or}
use Rattle.unwind_definitions.specs.State.{CalleeSaved, RBX, RBP, R12, R13, R14, R15, is_same}
use Rattle.unwind_definitions.specs.Prologue.{Step, steps_of, depth, frame_depth, distance}
use Rattle.unwind_definitions.specs.Function.{Function}
use Rattle.unwind_definitions.specs.Chain.{Call}
use Rattle.frame_facts.specs.Facts.{Slot, Facts}
use Rattle.frame_facts.specs.FactChains.{FactFrame}

abbrev pub all_callee_saved : List CalleeSaved
all_callee_saved = RBX ∷ RBP ∷ R12 ∷ R13 ∷ R14 ∷ R15 ∷ []

-- where steps save a register, if they do
abbrev pub slot_in : List Step → CalleeSaved → Option Slot
slot_in steps r = option_map (λ d. record { register = r; distance = d }) (distance r steps)

abbrev pub slots_after : List Step → List Slot
slots_after steps = filter_map (slot_in steps) all_callee_saved

-- the CFA is RSP plus the depth of the steps, unless they set RBP: then the body may have lowered RSP further
abbrev pub rsp_after : List Step → Option ℕ
rsp_after steps = option_map_or (λ d. None) (frame_depth steps) (Some (depth steps))

abbrev pub is_unsaved : List Step → CalleeSaved → Bool
is_unsaved steps r = not (is_some (distance r steps))

-- in the body, where a register that isn't saved holds its value in the caller
abbrev pub facts_in_body : List Step → Facts
facts_in_body steps = record { rsp = rsp_after steps; rbp = frame_depth steps; saved = slots_after steps; kept = filter (is_unsaved steps) all_callee_saved; outermost = false }

-- whether a register still holds its value in the caller: it isn't saved, or the steps don't set it, as they may set RBP
abbrev pub is_intact : List Step → CalleeSaved → Bool
is_intact steps r = is_unsaved steps r || (not (is_same r RBP) || not (is_some (frame_depth steps)))

-- inside the prologue, after these of its steps, where a saved register holds it too, but for RBP once that is set
abbrev pub facts_in_prologue : List Step → Facts
facts_in_prologue steps = record { rsp = rsp_after steps; rbp = frame_depth steps; saved = slots_after steps; kept = filter (is_intact steps) all_callee_saved; outermost = false }

-- in an outermost function, which saves nothing
abbrev pub outermost_facts : Facts
outermost_facts = record { rsp = Some 8; rbp = None; saved = []; kept = all_callee_saved; outermost = true }

-- in the body of a function, an outermost one or another
abbrev pub body_facts : Function → Facts
body_facts f = if f.outermost then outermost_facts else facts_in_body (steps_of f.prologue)

-- calls, as frames with what is known in the bodies of the called functions
abbrev pub called_frame : Call → FactFrame
called_frame c = record { facts = body_facts c.callee; caller = c.caller }

abbrev pub called_frames : List Call → List FactFrame
called_frames calls = map called_frame calls
