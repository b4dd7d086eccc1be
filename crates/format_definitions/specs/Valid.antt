-- What the theorem on deliveries is about, where modules are of three formats: a start, functions and a chain of calls that are
-- valid. Itanium C++ ABI, exception handling, level I.
use Rattle.std.specs.Prelude.{◌≡◌, ℕ, List, IsTrue, Some}
use Rattle.std.specs.List.{list_any, AllByRecursion}
use Rattle.memory_image.specs.Image.{Span}
use Rattle.unwind_definitions.specs.Caller.{Columns}
use Rattle.unwind_definitions.specs.State.{State, Shows}
use Rattle.unwind_definitions.specs.Function.{Function, IsFunction}
use Rattle.unwind_definitions.specs.Chain.{Call, IsChain}
use Rattle.unwind_definitions.specs.Delivery.{Frame, action_of_frame, accepts, deciding_frame, inner_frames, Resumes}
use Rattle.format_definitions.specs.Modules.{FormatModule, in_format, convention_of, part_of, DescribesFormat, IsUncoveredBy}

-- A module describes its part of a list, which are functions under the rules of the module's platform.
pub record DescribesItsPart (image : List Span) (functions : List Function) (m : FormatModule) : Type 0 where
  pub are_functions : AllByRecursion (IsFunction (convention_of m)) (part_of m functions)
  pub describes : DescribesFormat image m (part_of m functions)

-- A start, functions and a chain are valid: each module describes its part of the functions by the data of its format, and
-- there is no other one; the start shows the chain's innermost state; and where a handler takes the exception, each frame
-- inside it goes on after its cleanup where the resume table says.
pub record IsValid (image : List Span) (modules : List FormatModule) (start : Columns) (resumes : List (ℕ × ℕ)) (functions : List Function) (s : State) (calls : List Call) : Type 0 where
  pub parts : AllByRecursion (DescribesItsPart image functions) modules
  pub no_others : AllByRecursion (λ (f : Function). IsTrue (list_any (in_format f.start) modules)) functions
  pub shows : Shows start s
  pub chain : IsChain image (IsUncoveredBy image modules) functions s calls
  pub resumed : (f : Frame) → deciding_frame s calls ≡ Some f → IsTrue (accepts (action_of_frame f)) → AllByRecursion (Resumes resumes) (inner_frames s calls)
