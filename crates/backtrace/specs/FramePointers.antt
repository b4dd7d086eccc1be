-- Going on by frame pointers, where no table says a frame's caller. System V x86-64 psABI, section 3.2.2, figure 3.3: a function that
-- keeps RBP as its frame pointer has the caller's RBP at the address in RBP, and its return address in the word above.
use Rattle.std.specs.Prelude.{◌≡◌, ℕ, ◌+◌, ◌-◌, ◌%◌, ◌^◌, ◌==◌, ◌&&◌, ◌||◌, Bool, true, false, List, [], ◌∷◌, length, Option, Some, None, slice_get, slice_index, slice_set, nat_le, nat_lt, is_some, option_and_then, option_map, if◌then◌else◌}
use Rattle.memory_image.specs.Image.{Span, word_at}
use Rattle.unwind_definitions.specs.Columns as column
use Rattle.unwind_definitions.specs.State.{RBP}
use Rattle.unwind_definitions.specs.Prologue.{Step, Push, SetFrame, Followed}
use Rattle.unwind_definitions.specs.LanguageSearch.{address_of_call}
use Rattle.unwind_arch.specs.declared.x86_64.Context.{Context}
use Rattle.stack_steps.specs.Modules.{SpaceValue, module_at}
use Rattle.stack_walks.specs.declared.walk_end.EndReason.{EndReason}
use Rattle.stack_walks.specs.declared.walk_end.EndReason.TheVariants.{Outermost, NoModule, NoDescription, UnreadableTable, Refused, Limit}
use Rattle.backtrace.specs.Code.{CodeValue, code_at}
use Rattle.backtrace.specs.Tracing.{TraceValue, IsFrontOf}

-- ---- the caller by the frame pointer

-- the steps of a function that pushes RBP and makes it its frame pointer, and saves no other register
abbrev pub frame_pointer_steps : List Step
frame_pointer_steps = Push (Followed RBP) ∷ SetFrame 0 ∷ []

-- A frame pointer is a whole number of words, and stands at the stack pointer or above it. The stack goes on above its two words.
abbrev pub is_frame_pointer : ℕ → ℕ → Bool
is_frame_pointer sp pointer = nat_le sp pointer && (pointer % 8 == 0) && nat_lt pointer (2 ^ 64 - 16)

abbrev pub frame_pointer_of : Context → Option ℕ
frame_pointer_of c =
    let pointer = slice_index c.registers column.rbp in
    if is_frame_pointer (slice_index c.registers column.rsp) pointer then Some pointer else None

-- The registers after a return by a frame pointer: both words are popped, the first into RBP, and every other register stays.
abbrev pub returned_by : Context → ℕ → ℕ → ℕ → Context
returned_by c pointer outer back =
    record c { registers = slice_set (slice_set c.registers column.rsp (pointer + 16)) column.rbp outer; ra = back }

abbrev pub popped_by : List Span → Context → ℕ → Option Context
popped_by image c pointer =
    option_and_then (λ outer. option_map (returned_by c pointer outer) (word_at image (pointer + 8))) (word_at image pointer)

-- the caller by the two words at the frame pointer
abbrev pub pointed_caller : List Span → Context → Option Context
pointed_caller image c = option_and_then (popped_by image c) (frame_pointer_of c)

-- the byte before a return address lies in code: of a module, or without a table
abbrev pub is_called_code : SpaceValue → List CodeValue → ℕ → Bool
is_called_code space code ra =
    nat_lt 0 ra && (is_some (module_at space.modules (address_of_call ra false)) || is_some (code_at code (address_of_call ra false)))

abbrev pub if_called : SpaceValue → List CodeValue → Context → Option Context
if_called space code c = if is_called_code space code c.ra then Some c else None

-- the same, where its return address leads to code
abbrev pub caller_by_pointer : SpaceValue → List CodeValue → Context → Option Context
caller_by_pointer space code c = option_and_then (if_called space code) (pointed_caller space.image c)

-- ---- where it is asked

-- A walk goes no further since no table describes the address: it lies in code without a table, or the tables of its module have no
-- description of it.
abbrev pub is_without_table : List CodeValue → EndReason → Bool
is_without_table code Outermost = false
is_without_table code (NoModule a) = is_some (code_at code a)
is_without_table code (NoDescription a) = true
is_without_table code (UnreadableTable a offset e) = true
is_without_table code (Refused a e) = false
is_without_table code Limit = false

abbrev pub last_of : List Context → Option Context
last_of states = slice_get states (length states - 1)

-- the caller from which a trace goes on, where frame pointers are asked for: that of its last state
abbrev pub guess_after : Bool → SpaceValue → List CodeValue → TraceValue → Option Context
guess_after pointers space code t =
    if is_without_table code t.why && pointers then option_and_then (caller_by_pointer space code) (last_of t.states) else None

-- ---- how far it leads

-- a trace is the walk by tables from such a caller, of at most so many states
abbrev pub IsWalkFrom : SpaceValue → ℕ → Context → TraceValue → Type 0
IsWalkFrom space limit c t = (t.first ≡ None) × IsFrontOf space limit c false false t

module _ (pointers : Bool) (space : SpaceValue) (code : List CodeValue) (limit : ℕ) where
  -- Walks that go on from a trace, before whose end so many states stand: each from the caller by the frame pointer of the last
  -- state before it, as far as its tables lead, until there is no such caller. All have at most as many states as the limit.
  abbrev pub AreGuesses : ℕ → TraceValue → List TraceValue → Type 0
  AreGuesses n t [] = guess_after pointers space code t ≡ None
  AreGuesses n t (u ∷ us) =
      (c : Context) × (guess_after pointers space code t ≡ Some c) × IsWalkFrom space (limit - n) c u × AreGuesses (n + length u.states) u us
