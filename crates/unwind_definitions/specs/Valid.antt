-- What the theorems on walks and deliveries are about: processes whose ELF tables describe the functions of a chain.
use Rattle.std.specs.Prelude.{◌≡◌, ◌⊎◌, ℕ, ◌-◌, List, IsTrue, Some}
use Rattle.std.specs.List.{filter, list_any, Contains, AllByRecursion}
use Rattle.unwind_definitions.specs.Caller.{Columns}
use Rattle.unwind_definitions.specs.State.{State, Shows}
use Rattle.unwind_definitions.specs.Prologue.{SystemV}
use Rattle.unwind_definitions.specs.Function.{Function, IsFunction}
use Rattle.unwind_definitions.specs.Module.{Module, Process, in_module, DescribesModule, IsUncovered}
use Rattle.unwind_definitions.specs.Chain.{Call, IsChain, last_state}
use Rattle.unwind_definitions.specs.Delivery.{Frame, action_of_frame, accepts, deciding_frame, inner_frames, Resumes}

-- the functions of a list that start in a module
abbrev pub part_in : Module → List Function → List Function
part_in m functions = filter (λ (f : Function). in_module f.start m) functions

module _ (p : Process) where
  -- a module describes its part of a list of functions
  abbrev pub DescribesPart : Module → List Function → Type 0
  DescribesPart m functions = DescribesModule p.image m (part_in m functions)

  -- a function lies in a module that describes its part of the list
  pub record LiesInElf (functions : List Function) (f : Function) : Type 0 where
    pub home : Module
    pub known : Contains p.modules home
    pub inside : IsTrue (in_module f.start home)
    pub describes : DescribesPart home functions

  -- an address is in no module, or in one that describes its part of the list
  abbrev pub IsElfDescribedAt : List Function → ℕ → Type 0
  IsElfDescribedAt functions a = (m : Module) → Contains p.modules m → IsTrue (in_module a m) → DescribesPart m functions

  -- A chain over functions that the modules in its way describe.
  pub record IsElfChain (functions : List Function) (s : State) (calls : List Call) : Type 0 where
    pub are_functions : AllByRecursion (IsFunction SystemV) functions
    pub chain : IsChain p.image (IsUncovered p) functions s calls
    pub described : AllByRecursion (λ (c : Call). LiesInElf functions c.callee) calls
    pub ends : ((last_state s calls).ra ≡ 0) ⊎ IsElfDescribedAt functions ((last_state s calls).ra - 1)

  -- A start, functions and a chain are valid: each module describes its part of the functions, and there is no other one;
  -- the start shows the chain's innermost state; and where a handler takes the exception, each frame inside it goes on
  -- after its cleanup where the resume table says.
  pub record IsElfValid (start : Columns) (resumes : List (ℕ × ℕ)) (functions : List Function) (s : State) (calls : List Call) : Type 0 where
    pub are_functions : AllByRecursion (IsFunction SystemV) functions
    pub modules : AllByRecursion (λ (m : Module). DescribesPart m functions) p.modules
    pub no_others : AllByRecursion (λ (f : Function). IsTrue (list_any (in_module f.start) p.modules)) functions
    pub shows : Shows start s
    pub chain : IsChain p.image (IsUncovered p) functions s calls
    pub resumed : (f : Frame) → deciding_frame s calls ≡ Some f → IsTrue (accepts (action_of_frame f)) → AllByRecursion (Resumes resumes) (inner_frames s calls)
