-- Modules of three formats in one process: ELF modules with frame tables, Mach-O modules with compact unwinding, and PE modules
-- with unwind records; and chains of calls through them.
use Rattle.std.specs.Prelude.{◌≡◌, ◌⊎◌, ℕ, ◌+◌, ◌-◌, Bool, ◌&&◌, List, Ok, IsTrue, nat_le, nat_lt}
use Rattle.std.specs.List.{filter, Contains, AllByRecursion}
use Rattle.memory_image.specs.Image.{Span, table_at}
use Rattle.unwind_definitions.specs.Caller.{Columns}
use Rattle.unwind_definitions.specs.State.{State, KeepsOthers}
use Rattle.unwind_definitions.specs.Prologue.{Convention, SystemV, Windows}
use Rattle.unwind_definitions.specs.Function.{Function, IsFunction}
use Rattle.unwind_definitions.specs.Module.{Module, DescribesModule, CoversNot}
use Rattle.unwind_definitions.specs.Chain.{Call, IsChain, last_state}
use Rattle.macho_unwind_info.specs.declared.function.Function.{Function as Listed}
use Rattle.macho_unwind_info.specs.Described.{HasDescribedPages, Covers}
use Rattle.macho_unwind_info.specs.Listing.{Section, section_of, listing}
use Rattle.format_definitions.specs.CompactStep.{MachoModule}
use Rattle.format_definitions.specs.MachoModules.{DescribesMacho}
use Rattle.format_definitions.specs.PeImage.{PeModule}
use Rattle.format_definitions.specs.PeModules.{DescribesPe}
use Rattle.format_definitions.specs.PeRegisters.{KeepsScratchColumns}

pub data FormatModule : Type 0 where
  Elf : Module → FormatModule
  Macho : MachoModule → FormatModule
  Pe : PeModule → FormatModule

-- an address lies in a module
abbrev pub is_within : ℕ → ℕ → ℕ → Bool
is_within a start end = nat_le start a && nat_lt a end

abbrev pub in_format : ℕ → FormatModule → Bool
in_format a (Elf m) = is_within a m.start m.end
in_format a (Macho m) = is_within a m.base (m.base + m.size)
in_format a (Pe m) = is_within a m.base (m.base + m.size)

-- the rules of the platform that the functions of a module are compiled for
abbrev pub convention_of : FormatModule → Convention
convention_of (Elf m) = SystemV
convention_of (Macho m) = SystemV
convention_of (Pe m) = Windows

-- From a frame in a module to its caller all columns that no state has are kept, but for RSI and RDI by a frame in a PE module,
-- which restores them.
abbrev pub KeepsIn : FormatModule → Columns → Columns → Type 0
KeepsIn (Elf m) old new = KeepsOthers old new
KeepsIn (Macho m) old new = KeepsOthers old new
KeepsIn (Pe m) old new = KeepsScratchColumns old new

abbrev pub part_of : FormatModule → List Function → List Function
part_of m functions = filter (λ (f : Function). in_format f.start m) functions

-- A Mach-O module's pages are as a linker writes them, and no function of its listing covers an address.
pub record MachoCoversNot (image : List Span) (m : MachoModule) (a : ℕ) : Type 0 where
  pub info : Section
  pub parses : section_of (table_at image m.unwind_info) ≡ Ok info
  pub pages : HasDescribedPages info
  pub uncovered : (listed : Listed) → Contains (listing info) (Ok listed) → Covers listed (a - m.base) → ⊥

module _ (image : List Span) where
  -- a module describes functions by the data of its format
  abbrev pub DescribesFormat : FormatModule → List Function → Type 0
  DescribesFormat (Elf m) functions = DescribesModule image m functions
  DescribesFormat (Macho m) functions = DescribesMacho image m functions
  DescribesFormat (Pe m) functions = DescribesPe image m functions

  -- None of a module's entries contains an address of it. In a PE module such an address is one of a leaf.
  abbrev pub IsUncoveredIn : FormatModule → ℕ → Type 0
  IsUncoveredIn (Elf m) a = CoversNot image m a
  IsUncoveredIn (Macho m) a = MachoCoversNot image m a
  IsUncoveredIn (Pe m) a = ⊥

  module _ (modules : List FormatModule) where
    -- an address is in no module, or in one none of whose entries contains it
    abbrev pub IsUncoveredBy : ℕ → Type 0
    IsUncoveredBy a = (m : FormatModule) → Contains modules m → IsTrue (in_format a m) → IsUncoveredIn m a

    -- a function lies in a module that describes its part of a list, and keeps the rules of that module's platform
    pub record LiesDescribed (functions : List Function) (f : Function) : Type 0 where
      pub home : FormatModule
      pub known : Contains modules home
      pub inside : IsTrue (in_format f.start home)
      pub is_function : IsFunction (convention_of home) f
      pub describes : DescribesFormat home (part_of home functions)

    -- an address is in no module, or in one that describes its part of the list
    abbrev pub IsDescribedAt : List Function → ℕ → Type 0
    IsDescribedAt functions a = (m : FormatModule) → Contains modules m → IsTrue (in_format a m) → DescribesFormat m (part_of m functions)

    -- A chain over functions that the modules in its way describe, of whatever format each is.
    pub record IsDescribedChain (functions : List Function) (s : State) (calls : List Call) : Type 0 where
      pub chain : IsChain image IsUncoveredBy functions s calls
      pub described : AllByRecursion (λ (c : Call). LiesDescribed functions c.callee) calls
      pub ends : ((last_state s calls).ra ≡ 0) ⊎ IsDescribedAt functions ((last_state s calls).ra - 1)
