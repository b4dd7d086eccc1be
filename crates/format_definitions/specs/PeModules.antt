-- When the unwind data of a PE module describes functions. Microsoft x64 exception handling; PE format, section .pdata.
use Rattle.std.specs.Prelude.{◌≡◌, ◌≢◌, ◌⊎◌, ℕ, zero, suc, ◌+◌, ◌-◌, ◌≤◌, false, List, [], ◌∷◌, ◌++◌, length, take, map, reverse, Option, Some, None, Ok, IsTrue, IsFalse}
use Rattle.std.specs.List.{AllByRecursion, Contains, flat_map}
use Rattle.std.specs.Option.{option_map}
use Rattle.memory_image.specs.Image.{Span}
use Rattle.unwind_definitions.specs.Prologue.{PrologueStep, steps_of, ends_of, Ascend}
use Rattle.unwind_definitions.specs.Pointers.{Pointer, Direct}
use Rattle.unwind_definitions.specs.Caller.{◌+w◌}
use Rattle.unwind_definitions.specs.Function.{Function, in_body}
use Rattle.unwind_definitions.specs.LanguageTable.{LeadsToLanguage}
use Rattle.pe_unwind_info.specs.declared.x86_64.function_table.RuntimeFunction.{RuntimeFunction}
use Rattle.pe_unwind_info.specs.declared.x86_64.epilog.FunctionEpilogInstruction.{FunctionEpilogInstruction}
use Rattle.pe_unwind_info.specs.declared.x86_64.operations.UnwindOperation.{UnwindOperation}
use Rattle.pe_unwind_info.specs.declared.x86_64.registers.Register.{Register}
use Rattle.pe_unwind_info.specs.Chain.{chain_of}
use Rattle.pe_unwind_info.specs.EpilogGrammar.{IsEpilog}
use Rattle.pe_unwind_info.specs.EpilogList.{leading_epilogs, after_epilogs, is_due}
use Rattle.pe_unwind_info.specs.Frame.{info_in, chained_of, operations_alone}
use Rattle.pe_unwind_info.specs.FrameOf.{Image}
use Rattle.pe_unwind_info.specs.FunctionTable.{functions_of, AreOrdered}
use Rattle.pe_unwind_info.specs.HandlerData.{names_handler, handler_data_offset_of}
use Rattle.pe_unwind_info.specs.Header.{version_of, frame_register_of}
use Rattle.pe_unwind_info.specs.Info.{Info}
use Rattle.pe_unwind_info.specs.InfoOperations.{operations_in}
use Rattle.pe_unwind_info.specs.Operations.{First, first_of}
use Rattle.format_definitions.specs.PeImage.{PeModule, memory_of, table_of}
use Rattle.format_definitions.specs.PeUndoing.{undo, undo_at_end, Grouped, IsFrameOffset, Names}

-- ---- the slots of a record

-- the operations that slots spell end with the slots
abbrev pub then_ends_whole : First → (List ℕ → Type 0) → Type 0
then_ends_whole None later = ⊥
then_ends_whole (Some (offset, operation, rest)) later = later rest

abbrev pub AreWholeFrom : ℕ → ℕ → List ℕ → Type 0
AreWholeFrom n version [] = Unit {0}
AreWholeFrom zero version (b ∷ bytes) = ⊥
AreWholeFrom (suc n) version (b ∷ bytes) = then_ends_whole (first_of version (b ∷ bytes)) (AreWholeFrom n version)

abbrev pub HasWholeSlots : Info → Type 0
HasWholeSlots info = AreWholeFrom (length info.slots) (version_of info.header) info.slots

-- the flags for exceptions and for termination are clear
abbrev pub NamesNoHandler : Info → Type 0
NamesNoHandler info = IsFalse (names_handler info)

-- ---- where a function's records have its language table

-- the data of the handler that a function's record names, by the record's trailer, so far from the module's base
abbrev pub handler_pointer : ℕ → RuntimeFunction → Info → Option Pointer
handler_pointer base function info = option_map (λ (offset : ℕ). Direct (base +w (function.unwind_info_address + offset))) (handler_data_offset_of info)

-- Only the first record may name a handler, whose trailer is then there, and no other record follows. The handler's data are the
-- function's language table; without a handler the function has none.
pub record NamesLanguage (image : List Span) (base : ℕ) (function : RuntimeFunction) (first : Info) (chained : List Info) (f : Function) : Type 0 where
  pub trailer : IsTrue (names_handler first) → handler_data_offset_of first ≢ None
  pub alone : IsTrue (names_handler first) → chained ≡ []
  pub quiet : AllByRecursion NamesNoHandler chained
  pub leads : LeadsToLanguage image f (handler_pointer base function first)

abbrev pub all_operations : List Info → List UnwindOperation
all_operations infos = flat_map (λ (info : Info). operations_alone (operations_in info)) infos

-- ---- addresses that are not in an epilog

-- the bytes from an address to a function's end are in one region, and begin with no epilog of at most twelve instructions
pub record BeginsWithNoEpilog (memory : Image) (frame : Option Register) (end a : ℕ) : Type 0 where
  pub bytes : List ℕ
  pub mapped : memory a ≡ Some bytes
  pub before : a ≤ end
  pub fits : end - a ≤ length bytes
  pub none : (instructions : List FunctionEpilogInstruction) → length instructions ≤ 12 → IsEpilog frame (take (end - a) bytes) instructions → ⊥

-- nothing tells that an address lies in an epilog, or the code there begins with none
abbrev pub IsInNoEpilog : Image → RuntimeFunction → Info → ℕ → Type 0
IsInNoEpilog memory function first a =
    IsFalse (is_due function.end_address a (leading_epilogs (operations_in first))) ⊎ BeginsWithNoEpilog memory (frame_register_of first.header) function.end_address a

-- ---- functions

-- a leaf of a PE module is not outermost, and has no language table
pub record IsPlain (f : Function) : Type 0 where
  pub not_outermost : f.outermost ≡ false
  pub no_sites : f.sites ≡ None

-- A record of the function table describes a function: its unwind record and those that it goes on with can be read, and their
-- operations undo the function's steps, the last step first.
pub record DescribesRecord (image : List Span) (m : PeModule) (function : RuntimeFunction) (f : Function) : Type 0 where
  pub start : f.start ≡ m.base + function.begin_address
  pub end : f.end ≡ m.base + function.end_address
  pub not_outermost : f.outermost ≡ false
  -- the unwind record, and those that it goes on with, at most 32
  pub first : Info
  pub chained : List Info
  pub reads : info_in function.unwind_info_address (memory_of image m.base function.unwind_info_address) ≡ Ok first
  pub chain : chain_of (memory_of image m.base) 32 (chained_of first) ≡ Ok chained
  pub language : NamesLanguage image m.base function first chained f
  pub whole : AllByRecursion HasWholeSlots (first ∷ chained)
  -- the steps that the chained records tell of, and those that the first one does
  pub inherited : List PrologueStep
  pub own : List PrologueStep
  pub prologue : f.prologue ≡ inherited ++ own
  pub inherited_ends : AllByRecursion (λ (p : PrologueStep). p.end ≡ 0) inherited
  pub own_ends : Ascend 0 (ends_of own)
  pub undoes_own : after_epilogs (operations_in first) ≡ map undo_at_end (reverse own)
  pub undoes_inherited : all_operations chained ≡ map undo (reverse (steps_of inherited))
  pub grouped : Grouped (steps_of f.prologue)
  pub frame_offset : IsFrameOffset grouped.set
  pub names : AllByRecursion (λ (info : Info). Names grouped.set info.header) (first ∷ chained)
  pub bodies : (pc : ℕ) → IsTrue (in_body f pc) → IsInNoEpilog (memory_of image m.base) function first (pc - m.base)

-- a record of the table has no address of a function
abbrev pub MeetsNot : ℕ → Function → RuntimeFunction → Type 0
MeetsNot base f function = (base + function.end_address ≤ f.start) ⊎ (f.end ≤ base + function.begin_address)

-- A leaf lies inside the module and meets no record. It has no steps.
pub record DescribesLeaf (m : PeModule) (table : List RuntimeFunction) (f : Function) : Type 0 where
  pub inside : (m.base ≤ f.start) × (f.end ≤ m.base + m.size)
  pub apart : AllByRecursion (MeetsNot m.base f) table
  pub no_steps : f.prologue ≡ []
  pub plain : IsPlain f

-- the record of the table that describes a function
pub record HasRecord (image : List Span) (m : PeModule) (table : List RuntimeFunction) (f : Function) : Type 0 where
  pub function : RuntimeFunction
  pub listed : Contains table function
  pub describes : DescribesRecord image m function f

-- A PE module describes functions: its function table has whole records, in order and inside the module, and each function is
-- described by one of them, or is a leaf.
pub record DescribesPe (image : List Span) (m : PeModule) (functions : List Function) : Type 0 where
  pub bytes : List ℕ
  pub mapped : table_of image m ≡ Some bytes
  pub table : List RuntimeFunction
  pub reads : functions_of bytes ≡ Some table
  pub ordered : AreOrdered 0 m.size table
  pub each : AllByRecursion (λ (f : Function). HasRecord image m table f ⊎ DescribesLeaf m table f) functions
