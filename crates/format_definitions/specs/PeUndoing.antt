-- Which unwind operations undo the steps of a prologue. Microsoft x64 exception handling, UNWIND_CODE.
use Rattle.std.specs.Prelude.{◌≡◌, ◌≢◌, ℕ, ◌%◌, ◌≤◌, List, [], ◌∷◌, ◌++◌, Option, Some, None, MatchOption}
use Rattle.std.specs.List.{AllByRecursion}
use Rattle.unwind_definitions.specs.State.{RBP}
use Rattle.unwind_definitions.specs.Prologue.{Register, Followed, RDI, RSI, XMM, Step, Push, Allocate, SetFrame, Store, PrologueStep}
use Rattle.pe_unwind_info.specs.declared.x86_64.registers.Register.{Register as General}
use Rattle.pe_unwind_info.specs.declared.x86_64.registers.Register.TheVariants as pe
use Rattle.pe_unwind_info.specs.declared.x86_64.operations.UnwindOperation.{UnwindOperation}
use Rattle.pe_unwind_info.specs.declared.x86_64.operations.UnwindOperation.TheVariants.{PopNonVolatile, UnStackAlloc, RestoreSPFromFP, ReadNonVolatile, ReadXMM}
use Rattle.pe_unwind_info.specs.declared.x86_64.unwind_info.UnwindInfoHeader.{UnwindInfoHeader}
use Rattle.pe_unwind_info.specs.Registers.{register_of, xmm_register_of}
use Rattle.pe_unwind_info.specs.Header.{frame_number, frame_distance}
use Rattle.pe_unwind_info.specs.Operations.{Placed, frame_offset}
use Rattle.format_definitions.specs.PeRegisters.{pe_register}

-- the general purpose register of a push, which is never an XMM register
abbrev pub general_of : Register → General
general_of (Followed r) = pe_register r
general_of RDI = pe.RDI
general_of RSI = pe.RSI
general_of (XMM n) = register_of n

abbrev pub undo_store : Register → ℕ → UnwindOperation
undo_store (Followed r) k = ReadNonVolatile (pe_register r) (frame_offset k)
undo_store RDI k = ReadNonVolatile pe.RDI (frame_offset k)
undo_store RSI k = ReadNonVolatile pe.RSI (frame_offset k)
undo_store (XMM n) k = ReadXMM (xmm_register_of n) (frame_offset k)

-- the operation that undoes a step
abbrev pub undo : Step → UnwindOperation
undo (Push r) = PopNonVolatile (general_of r)
undo (Allocate n) = UnStackAlloc n
undo (SetFrame m) = RestoreSPFromFP
undo (Store r k) = undo_store r k

-- the same with the offset at which the step has ended
abbrev pub undo_at_end : PrologueStep → Placed
undo_at_end p = (p.end, undo p.step)

-- ---- the order of a prologue

abbrev pub IsPushOrAllocation : Step → Type 0
IsPushOrAllocation (Push (XMM n)) = ⊥
IsPushOrAllocation (Push r) = Unit {0}
IsPushOrAllocation (Allocate n) = Unit {0}
IsPushOrAllocation (SetFrame m) = ⊥
IsPushOrAllocation (Store r k) = ⊥

-- RBP is not stored
abbrev pub IsStore : Step → Type 0
IsStore (Store (Followed r) k) = r ≢ RBP
IsStore (Store r k) = Unit {0}
IsStore (Push r) = ⊥
IsStore (Allocate n) = ⊥
IsStore (SetFrame m) = ⊥

abbrev pub set_step : Option ℕ → List Step
set_step None = []
set_step (Some m) = SetFrame m ∷ []

-- Pushes and allocations come first, then perhaps the step that sets RBP, and then stores.
pub record Grouped (steps : List Step) : Type 0 where
  pub frame : List Step
  pub set : Option ℕ
  pub stores : List Step
  pub is : steps ≡ frame ++ (set_step set ++ stores)
  pub frames : AllByRecursion IsPushOrAllocation frame
  pub are_stores : AllByRecursion IsStore stores

-- a record has room for four bits of 16 bytes each
abbrev pub IsFrameOffset : Option ℕ → Type 0
IsFrameOffset set = MatchOption set (Unit {0}) (λ m. (m % 16 ≡ 0) × (m ≤ 240))

-- a record names RBP, number 5, and how far above the stack pointer it was set; or no register
abbrev pub Names : Option ℕ → UnwindInfoHeader → Type 0
Names None header = frame_number header ≡ 0
Names (Some m) header = (frame_number header ≡ 5) × (frame_distance header ≡ m)
