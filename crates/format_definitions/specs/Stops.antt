-- A state that was stopped anywhere in a function of a module of whatever format, where it stands and not in a call.
use Rattle.std.specs.Prelude.{◌≢◌, ◌⊎◌, ◌-◌, List, IsTrue, IsFalse}
use Rattle.std.specs.List.{Contains}
use Rattle.memory_image.specs.Image.{Span}
use Rattle.unwind_definitions.specs.State.{State, IsState}
use Rattle.unwind_definitions.specs.Prologue.{PrologueStep, steps_of}
use Rattle.unwind_definitions.specs.Entered.{IsEntered}
use Rattle.unwind_definitions.specs.Function.{Function, in_body}
use Rattle.unwind_definitions.specs.Chain.{Call}
use Rattle.unwind_definitions.specs.Stopped.{StandsAfter}
use Rattle.pe_unwind_info.specs.declared.x86_64.function_table.RuntimeFunction.{RuntimeFunction}
use Rattle.format_definitions.specs.PeImage.{PeModule, memory_of}
use Rattle.format_definitions.specs.PeModules.{IsInNoEpilog, DescribesLeaf, HasRecord}
use Rattle.format_definitions.specs.PeEpilogs.{StandsInEpilog}
use Rattle.format_definitions.specs.Modules.{FormatModule, Elf, Macho, Pe, part_of, DescribesFormat, LiesDescribed}

-- A state stands in the prologue of a function, after some of its steps, perhaps none or all, and before the others.
pub record StandsInPrologue (image : List Span) (s : State) (c : Call) : Type 0 where
  pub done : List PrologueStep
  pub later : List PrologueStep
  pub stands : StandsAfter image c.callee done later c.caller s

-- A state stands in the body of a function, which was entered by its whole prologue.
pub record StandsInBody (image : List Span) (s : State) (c : Call) : Type 0 where
  pub inside : IsTrue (in_body c.callee s.ra)
  pub entered : IsEntered image c.callee.outermost (steps_of c.callee.prologue) c.caller s

module _ (image : List Span) (m : PeModule) (table : List RuntimeFunction) (s : State) (c : Call) where
  -- A state stands in a function of a PE module: in its body; in its prologue, where no epilog is read at the address, and where
  -- all steps that chained records tell of have ended; before the body of a leaf, which has no steps; or in an epilog.
  pub data StandsInPe : Type 0 where
    at_body : StandsInBody image s c → StandsInPe
    at_prologue : (r : HasRecord image m table c.callee) → IsInNoEpilog (memory_of image m.base) r.function r.describes.first (s.ra - m.base) → StandsInPrologue image s c → StandsInPe
    at_leaf : DescribesLeaf m table c.callee → StandsInPrologue image s c → StandsInPe
    at_epilog : (r : HasRecord image m table c.callee) → StandsInEpilog image m r.function c.callee r.describes c.caller s → StandsInPe

module _ (image : List Span) where
  -- Where a state may be stopped, by the format of the module that describes its function: unwind data of a Mach-O module tells
  -- of bodies alone.
  abbrev pub StandsIn : (home : FormatModule) (functions : List Function) → DescribesFormat image home functions → State → Call → Type 0
  StandsIn (Elf m) functions d s c = StandsInPrologue image s c ⊎ StandsInBody image s c
  StandsIn (Macho m) functions d s c = StandsInBody image s c
  StandsIn (Pe m) functions d s c = StandsInPe image m d.table s c

  module _ (modules : List FormatModule) where
    -- A state was stopped at an instruction, which its address is, of a listed function that a module describes: in the body, in
    -- the prologue or in an epilog. The function was called from its caller's state, and is not an outermost one.
    pub record IsDescribedStop (functions : List Function) (s : State) (c : Call) : Type 0 where
      pub inner : IsFalse c.callee.outermost
      pub listed : Contains functions c.callee
      pub lies : LiesDescribed image modules functions c.callee
      pub returns : s.ra ≢ 0
      pub stands : StandsIn lies.home (part_of lies.home functions) lies.describes s c
      pub caller : IsState c.caller
