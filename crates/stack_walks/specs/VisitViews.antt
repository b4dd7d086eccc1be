-- What the code that goes outwards answers, in the words of the definitions.
use Rattle.std.specs.Prelude.{◌≡◌, ◌++◌, ◌∷◌, [], Bool, true, false, List, Option, Some, None, Result, Ok, Err}
use Rattle.std.specs.Option.{option_map}
use Rattle.memory_image.specs.Results.{result_map}
use Rattle.unwind_arch.specs.declared.x86_64.Context.{Context}
use Rattle.stack_steps.specs.declared.error.DeliverError.{DeliverError}
use Rattle.format_frames.specs.declared.machine.Stepped.{Stepped}
use Rattle.stack_walks.specs.declared.unwind.Pass.{Pass as CodePass}
use Rattle.stack_walks.specs.declared.unwind.Phase.{Phase}
use Rattle.stack_walks.specs.declared.unwind.Phase.TheVariants as phase
use Rattle.stack_walks.specs.declared.unwind.Stop.{Stop as CodeStop}
use Rattle.stack_walks.specs.declared.unwind.FrameVisit.{FrameVisit as CodeVisit}
use Rattle.stack_walks.specs.declared.unwind.FrameVisit.TheVariants as code
use Rattle.stack_steps.specs.Languages.{languages_of}
use Rattle.stack_walks.specs.FrameVisits.{Line, Pass, Stop, FrameVisit, Ends, Stops, Goes, past_arguments}
use Rattle.stack_walks.specs.Walking.{RoomValue}

-- the code's pass
abbrev pub pass_shown : CodePass → Pass
pass_shown p = record { phase = p.phase; languages = languages_of p.languages }

abbrev pub passing : Option CodePass → Option Pass
passing = option_map pass_shown

-- a turn, and the state that it leaves
abbrev pub visit_shown : Stepped → CodeVisit → FrameVisit
visit_shown state code.End = Ends
visit_shown state (code.Stop action arguments) = Stops action (past_arguments state.context arguments)
visit_shown state code.Caller = Goes state

-- a turn that isn't the caller's leaves the state
abbrev pub StaysAt : CodeVisit → Stepped → Stepped → Type 0
StaysAt code.Caller old new = Unit {0}
StaysAt _ old new = new ≡ old

-- a stop at the frame at a state
abbrev pub stop_shown : Stepped → CodeStop → Stop
stop_shown state s = record {
  context = state.context;
  interrupted = state.signal;
  action = s.action;
  past = past_arguments state.context s.arguments;
}

-- where it stopped on the way outwards, at which state, and the contexts that were met
abbrev pub line_shown : List Context → Stepped → Option CodeStop → Line
line_shown contexts state stop = record { contexts = contexts; stop = option_map (stop_shown state) stop }

-- contexts are visited by a walk and by the search; a cleanup pass meets them again
abbrev pub visits_in : Phase → Bool
visits_in phase.Search = true
visits_in phase.Cleanup = false

abbrev pub visits : Option Pass → Bool
visits None = true
visits (Some p) = visits_in p.phase

-- the room after one more context
abbrev pub visited_with : Bool → RoomValue → Context → RoomValue
visited_with true room c = record room { visited = room.visited ++ c ∷ [] }
visited_with false room c = room

-- the contexts are those in a room, where they are visited
abbrev pub AreVisited : Bool → RoomValue → List Context → Type 0
AreVisited true room contexts = room.visited ≡ contexts
AreVisited false room contexts = Unit {0}

-- where it stopped on the way outwards, and the room and the state after it
abbrev pub IsUnwinding : Bool → Result (Option CodeStop) DeliverError → RoomValue → Stepped → Result Line DeliverError → Type 0
IsUnwinding visited (Ok stop) room state due = (contexts : List Context) × (due ≡ Ok (line_shown contexts state stop)) × AreVisited visited room contexts
IsUnwinding visited (Err e) room state due = due ≡ Err e

-- contexts that were met before a pass's
abbrev pub with_contexts : List Context → Result Line DeliverError → Result Line DeliverError
with_contexts front = result_map (λ (line : Line). record line { contexts = front ++ line.contexts })
