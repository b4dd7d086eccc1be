-- What is met at a context on the way outwards over a stack: by a walk, which has no phase, and by the passes of a delivery.
-- Itanium C++ ABI, exception handling, level I, section 1.3.
use Rattle.std.specs.Prelude.{ℕ, zero, suc, ◌+◌, ◌%◌, ◌^◌, Bool, true, false, List, [], ◌∷◌, Option, Some, None, Result, Ok, Err, slice_index, slice_set, if◌then◌else◌}
use Rattle.memory_image.specs.Image.{Span}
use Rattle.unwind_arch.specs.declared.x86_64.Context.{Context}
use Rattle.unwind_definitions.specs.Columns.{rax, rdx, rsp}
use Rattle.unwinding_frames.specs.Passes.{frame_mark}
use Rattle.format_frames.specs.declared.machine.Stepped.{Stepped}
use Rattle.stack_steps.specs.declared.error.DeliverError.{DeliverError}
use Rattle.stack_steps.specs.declared.error.DeliverError.TheVariants.{FrameLimit}
use Rattle.stack_walks.specs.declared.unwind.Phase.{Phase}
use Rattle.stack_walks.specs.declared.unwind.Phase.TheVariants as phase
use Rattle.stack_steps.specs.Modules.{SpaceValue}
use Rattle.memory_image.specs.Results.{◌>>=◌, result_map}
use Rattle.stack_steps.specs.declared.asking.FrameAction.{FrameAction}
use Rattle.stack_steps.specs.declared.asking.FrameAction.TheVariants.{Nothing, Cleanup, Handler, Terminate, TerminateAfterCleanups}
use Rattle.stack_steps.specs.Asking.{arguments_of}
use Rattle.stack_steps.specs.Languages.{Languages, frame_asks}
use Rattle.stack_steps.specs.Frames.{FrameAt}
use Rattle.stack_steps.specs.Stepping.{frame_of, caller_by}

-- ---- a pass

-- a pass: what it is for, and the languages of the functions that it asks
pub record Pass : Type 0 where
  pub phase : Phase
  pub languages : Languages

abbrev pub searching : Languages → Pass
searching languages = record { phase = phase.Search; languages = languages }

abbrev pub cleaning : Languages → Pass
cleaning languages = record { phase = phase.Cleanup; languages = languages }

-- a handler takes the exception, or the program ends
abbrev pub decides : FrameAction → Bool
decides Nothing = false
decides (Cleanup pad) = false
decides (Handler pad number) = true
decides Terminate = true
decides TerminateAfterCleanups = true

-- the search stops where a frame decides, and a cleanup pass where anything is asked
abbrev pub stops : Phase → FrameAction → Bool
stops phase.Search action = decides action
stops phase.Cleanup Nothing = false
stops phase.Cleanup _ = true

-- a context whose stack pointer is past the arguments that the callee removes
abbrev pub past_arguments : Context → ℕ → Context
past_arguments c size = record c { registers = slice_set c.registers rsp ((slice_index c.registers rsp + size) % 2 ^ 64) }

-- where a pass stops: the context, whether it stands after a signal's frame, what is asked there, and the context past its
-- arguments, with which a landing pad is entered
pub record Stop : Type 0 where
  pub context : Context
  pub interrupted : Bool
  pub action : FrameAction
  pub past : Context

-- what a pass meets at a context: the end of the stack, an action for which it stops, or the caller
pub data FrameVisit : Type 0 where
  Ends : FrameVisit
  Stops : FrameAction → Context → FrameVisit
  Goes : Stepped → FrameVisit

-- the action, where the pass stops for it
abbrev pub stop_by : Phase → FrameAction → Option FrameAction
stop_by p action = if stops p action then Some action else None

-- For which action a frame stops who goes outwards: a walk, which is no pass, for none, and a pass for what the frame asks.
abbrev pub stop_of : Option Pass → List Span → Context → Bool → FrameAt → Result (Option FrameAction) DeliverError
stop_of None image c interrupted f = Ok None
stop_of (Some p) image c interrupted f = result_map (stop_by p.phase) (frame_asks p.languages image c interrupted f)

-- at a frame: it stops there for an action, or its caller is next
abbrev pub visit_at : List Span → Context → FrameAt → Option FrameAction → Result FrameVisit DeliverError
visit_at image c f None = result_map Goes (caller_by image c f)
visit_at image c f (Some action) = Ok (Stops action (past_arguments c (arguments_of f)))

abbrev pub visit_in : Option Pass → List Span → Context → Bool → Option FrameAt → Result FrameVisit DeliverError
visit_in pass image c interrupted None = Ok Ends
visit_in pass image c interrupted (Some f) = stop_of pass image c interrupted f >>= visit_at image c f

-- A walk or a pass at a context. What is found there is read first, a row among it, then what names the handler, then the language
-- table, and the caller last.
unfoldable pub visit_for : Option Pass → SpaceValue → Context → Bool → Result FrameVisit DeliverError
visit_for pass space c interrupted = frame_of space c interrupted >>= visit_in pass space.image c interrupted

abbrev pub visit_of : Pass → SpaceValue → Context → Bool → Result FrameVisit DeliverError
visit_of p = visit_for (Some p)

-- the contexts that are met on the way outwards, and where it stops, None at the end of the stack
pub record Line : Type 0 where
  pub contexts : List Context
  pub stop : Option Stop

abbrev pub with_context : Context → Result Line DeliverError → Result Line DeliverError
with_context c = result_map (λ (line : Line). record line { contexts = c ∷ line.contexts })

abbrev pub line_visit : Context → Bool → Result FrameVisit DeliverError → (Context → Bool → Result Line DeliverError) → Result Line DeliverError
line_visit c interrupted (Ok Ends) outer = Ok (record { contexts = c ∷ []; stop = None })
line_visit c interrupted (Ok (Stops action past)) outer = Ok (record { contexts = c ∷ []; stop = Some (record { context = c; interrupted = interrupted; action = action; past = past }) })
line_visit c interrupted (Ok (Goes next)) outer = with_context c (outer next.context next.signal)
line_visit c interrupted (Err e) outer = Err e

-- From a context outwards, where there is room for so many contexts.
abbrev pub line_for : Option Pass → SpaceValue → ℕ → Context → Bool → Result Line DeliverError
line_for pass space zero c interrupted = Err FrameLimit
line_for pass space (suc room) c interrupted = line_visit c interrupted (visit_for pass space c interrupted) (line_for pass space room)

abbrev pub pass_of : Pass → SpaceValue → ℕ → Context → Bool → Result Line DeliverError
pass_of p = line_for (Some p)

-- the mark by which a pass knows the frame that the search decided for: its stack pointer, less 1 after a signal's frame
abbrev pub mark_at : Context → Bool → ℕ
mark_at c interrupted = frame_mark interrupted (slice_index c.registers rsp)

-- a context that enters a landing pad: RAX holds the exception, and RDX the number of the handler, or 0
abbrev pub enters : Context → ℕ → ℕ → ℕ → Context
enters c exception number pad = record c { registers = slice_set (slice_set c.registers rax exception) rdx number; ra = pad }
