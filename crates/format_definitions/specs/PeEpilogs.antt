-- A state that stands in an epilog of a PE function. Microsoft x64 exception handling, epilog code: an epilog gives back the
-- stack, pops the registers that the prologue pushed, and returns or jumps.
use Rattle.std.specs.Prelude.{◌≡◌, ◌≢◌, ◌⊎◌, ℕ, ◌+◌, ◌-◌, ◌^◌, ◌<◌, ◌≤◌, Bool, true, false, List, [], ◌∷◌, ◌++◌, length, map, reverse, sum, Option, Some, IsTrue, IsFalse, ◌==◌, if◌then◌else◌}
use Rattle.std.specs.List.{Contains, list_any}
use Rattle.memory_image.specs.Image.{Span, word_at}
use Rattle.unwind_definitions.specs.State.{CalleeSaved, State, value_of}
use Rattle.unwind_definitions.specs.Prologue.{Register as Saved, Push, Allocate, is_register, steps_of}
use Rattle.unwind_definitions.specs.Entered.{Leaves, stack_after}
use Rattle.unwind_definitions.specs.Function.{Function}
use Rattle.pe_unwind_info.specs.declared.x86_64.function_table.RuntimeFunction.{RuntimeFunction}
use Rattle.pe_unwind_info.specs.declared.x86_64.epilog.FunctionEpilogInstruction.{FunctionEpilogInstruction}
use Rattle.pe_unwind_info.specs.declared.x86_64.epilog.FunctionEpilogInstruction.TheVariants.{AddSP, AddSPFromFP, Pop}
use Rattle.pe_unwind_info.specs.declared.x86_64.operations.EpilogInformation.{EpilogInformation as Epilog}
use Rattle.pe_unwind_info.specs.declared.x86_64.registers.Register.{Register}
use Rattle.pe_unwind_info.specs.EpilogGrammar.{IsInstruction, IsTerminator}
use Rattle.pe_unwind_info.specs.EpilogList.{leading_epilogs}
use Rattle.pe_unwind_info.specs.Header.{frame_register_of}
use Rattle.pe_unwind_info.specs.InfoOperations.{operations_in}
use Rattle.pe_unwind_info.specs.Operations.{size_of_epilogs, ends_with_one, offset_of_epilog}
use Rattle.format_definitions.specs.PeImage.{PeModule, memory_of}
use Rattle.format_definitions.specs.PeUndoing.{general_of}
use Rattle.format_definitions.specs.PeModules.{DescribesRecord}

-- ---- the code of an epilog

-- A number that is added is not negative: the machine extends the sign of its one byte, in an instruction of four, or of its
-- four bytes.
abbrev pub number_limit : List ℕ → ℕ
number_limit code = if length code == 4 then 2 ^ 7 else 2 ^ 31

abbrev pub AddsForward : List ℕ → FunctionEpilogInstruction → Type 0
AddsForward code (AddSP n) = n < number_limit code
AddsForward code (AddSPFromFP n) = n < number_limit code
AddsForward code (Pop r) = Unit {0}

-- the codes of instructions, of which the first alone may adjust the stack pointer
abbrev pub AreSpelled : Option Register → Bool → List (List ℕ) → List FunctionEpilogInstruction → Type 0
AreSpelled frame allowed [] [] = Unit {0}
AreSpelled frame allowed (code ∷ codes) (i ∷ is) = IsInstruction frame allowed code i × AddsForward code i × AreSpelled frame false codes is
AreSpelled frame allowed [] (i ∷ is) = ⊥
AreSpelled frame allowed (code ∷ codes) [] = ⊥

abbrev pub concatenation : List (List ℕ) → List ℕ
concatenation [] = []
concatenation (code ∷ codes) = code ++ concatenation codes

-- ---- where a state stands

-- pops of registers, the one that was pushed last first
abbrev pub pops : List Saved → List FunctionEpilogInstruction
pops pushed = map (λ (r : Saved). Pop (general_of r)) (reverse pushed)

-- What is still to be done in an epilog, and which registers are still pushed: the stack pointer is given back by an `add` of
-- all that was allocated, or by a `lea` from RBP, which was set so far above the stack pointer; or some pops are left.
pub data StandsAt (t s : State) (pushed : List Saved) (rooms : List ℕ) (set : Option ℕ) : List FunctionEpilogInstruction → List Saved → Type 0 where
  before_add : {n : ℕ} → n ≡ sum rooms → s.sp ≡ stack_after (t.sp - 8) (map Push pushed ++ map Allocate rooms) → StandsAt t s pushed rooms set (AddSP n ∷ pops pushed) pushed
  before_lea : {n m : ℕ} → set ≡ Some m → n + m ≡ sum rooms → s.sp ≤ stack_after (t.sp - 8) (map Push pushed ++ map Allocate rooms) →
      s.rbp ≡ stack_after (t.sp - 8) (map Push pushed ++ map Allocate rooms) + m → StandsAt t s pushed rooms set (AddSPFromFP n ∷ pops pushed) pushed
  before_pops : {left : List Saved} (popped : List Saved) → pushed ≡ left ++ popped → s.sp ≡ stack_after (t.sp - 8) (map Push left) → StandsAt t s pushed rooms set (pops left) left

-- Epilog operations list an epilog by its offset from the function's end and its size. The first one tells the size, and may
-- list one that ends with the function.
pub data Lists (offset size : ℕ) : List Epilog → Type 0 where
  last : {first : Epilog} {later : List Epilog} → size_of_epilogs first ≡ size → IsTrue (ends_with_one first) → offset ≡ size → Lists offset size (first ∷ later)
  other : {first epilog : Epilog} {later : List Epilog} → size_of_epilogs first ≡ size → Contains later epilog → offset_of_epilog epilog ≡ offset → offset ≢ 0 → Lists offset size (first ∷ later)

-- A state that stands in an epilog of a function, entered from its caller's state.
pub record StandsInEpilog (image : List Span) (m : PeModule) (function : RuntimeFunction) (f : Function) (d : DescribesRecord image m function f) (t s : State) : Type 0 where
  -- what the whole prologue left
  pub room : 8 ≤ t.sp
  pub returns : word_at image (t.sp - 8) ≡ Some t.ra
  pub leaves : Leaves image t (t.sp - 8) (steps_of f.prologue)
  -- all pushes come before the allocations
  pub pushed : List Saved
  pub rooms : List ℕ
  pub frame : d.grouped.frame ≡ map Push pushed ++ map Allocate rooms
  -- what is to be done, and the values of the registers that are not still pushed
  pub todo : List FunctionEpilogInstruction
  pub left : List Saved
  pub stands : StandsAt t s pushed rooms d.grouped.set todo left
  pub values : (r : CalleeSaved) → IsFalse (list_any (is_register r) left) → value_of r s ≡ value_of r t
  -- its code up to a terminator, inside the function, and in one region with what follows up to the function's end
  pub codes : List (List ℕ)
  pub terminator : List ℕ
  pub rest : List ℕ
  pub beyond : List ℕ
  pub mapped : memory_of image m.base (s.ra - m.base) ≡ Some ((concatenation codes ++ (terminator ++ rest)) ++ beyond)
  pub up_to_end : length (concatenation codes ++ (terminator ++ rest)) ≡ f.end - s.ra
  pub spelled : AreSpelled (frame_register_of d.first.header) true codes todo
  pub ends : IsTerminator terminator
  -- the epilog's first byte; where epilog operations tell of epilogs, they list this one with its whole size
  pub from : ℕ
  pub begins : f.start ≤ from
  pub begun : from ≤ s.ra
  pub listed : (leading_epilogs (operations_in d.first) ≡ []) ⊎ Lists (f.end - from) ((s.ra - from) + length (concatenation codes ++ terminator)) (leading_epilogs (operations_in d.first))
