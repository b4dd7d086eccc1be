-- How many steps are counted in the search for a frame's description.
use Rattle.std.specs.Prelude.{◌≡◌, ◌≢◌, ℕ, ◌+◌, ◌*◌, ◌^◌, ◌<◌, ◌≤◌, ◌==◌, Bool, List, Option, Some, None, length, if◌then◌else◌}
use Rattle.std.specs.List.{AllByRecursion}
use Rattle.memory_image.specs.Image.{Span}
use Rattle.unwind_definitions.specs.HeaderSearch.{SearchTakes}
use Rattle.unwind_definitions.specs.LanguageSearch.{address_of_call}
use Rattle.unwind_arch.specs.declared.x86_64.Context.{Context}
use Rattle.eh_frame.specs.Index.{AreFewSteps, Index}
use Rattle.fde_finders.specs.declared.custom.FrameInfoKind.TheVariants.{EhFrame}
use Rattle.fde_finders.specs.Named.{pairs_by}
use Rattle.stack_steps.specs.declared.space.Module.{Module}
use Rattle.stack_steps.specs.declared.space.ModuleTables.{ModuleTables}
use Rattle.stack_steps.specs.declared.space.ModuleTables.TheVariants.{Elf, Macho, Pe}
use Rattle.stack_steps.specs.Modules.{Added, SpaceValue, module_at}
use Rattle.stack_steps.specs.Preparing.{index_at, index_of, len_of}

-- how many pairs of a header's table are searched in a module: none where it names a frame table, and none in one of another format
abbrev pub module_pairs : List Span → ModuleTables → ℕ
module_pairs image (Elf tables) = pairs_by tables image
module_pairs image (Macho tables) = 0
module_pairs image (Pe tables) = 0

abbrev pub pairs_in_module : List Span → Option Module → ℕ
pairs_in_module image None = 0
pairs_in_module image (Some m) = module_pairs image m.tables

-- how long the list is that is searched: the index of a prepared module, or else the table of a header
abbrev pub searched_in : List Span → Option Index → Option Module → ℕ
searched_in image None m = pairs_in_module image m
searched_in image (Some index) m = length index.functions

-- the same for the frame that a context shows: nothing is searched at a return address of 0
abbrev pub searched_at : SpaceValue → Context → Bool → ℕ
searched_at space c interrupted =
    if c.ra == 0 then 0
    else searched_in space.image (index_at space.added (address_of_call c.ra interrupted)) (module_at space.modules (address_of_call c.ra interrupted))

-- A count of steps rises by no more than a search of so many takes: as many as their number has binary digits.
abbrev pub RisesBySearch : ℕ → ℕ → ℕ → Type 0
RisesBySearch many old new = (taken : ℕ) × (new ≡ old + taken) × SearchTakes many taken

-- in a module: by its index, where it has one, and else by the table of its header
abbrev pub TicksBy : List Span → Module → Option Index → ℕ → ℕ → Type 0
TicksBy image m None old new = RisesBySearch (module_pairs image m.tables) old new
TicksBy image m (Some index) old new = AreFewSteps (length index.functions) old new

abbrev pub TicksIn : List Span → Added → ℕ → ℕ → Type 0
TicksIn image m old new = TicksBy image m.holder m.index old new

-- the same for the frame that a context shows: none where there is nothing to search
pub record TicksAt (space : SpaceValue) (c : Context) (interrupted : Bool) (old new : ℕ) : Type 0 where
  pub ends : c.ra ≡ 0 → new ≡ old
  pub nowhere : c.ra ≢ 0 → module_at space.modules (address_of_call c.ra interrupted) ≡ None → (index_at space.added (address_of_call c.ra interrupted) ≡ None) × (new ≡ old)
  pub somewhere : c.ra ≢ 0 → (m : Module) → module_at space.modules (address_of_call c.ra interrupted) ≡ Some m → TicksBy space.image m (index_at space.added (address_of_call c.ra interrupted)) old new

-- a module names its frame table itself, or is of another format
abbrev pub IsUnsearched : ModuleTables → Type 0
IsUnsearched (Elf tables) = (frame : ℕ) × (tables.kind ≡ EhFrame frame)
IsUnsearched (Macho tables) = Unit {0}
IsUnsearched (Pe tables) = Unit {0}

-- the address asked is in a module that isn't prepared and in which nothing is searched
pub record IsScannedAt (space : SpaceValue) (c : Context) (interrupted : Bool) : Type 0 where
  pub returns : c.ra ≢ 0
  pub holder : Module
  pub holds : module_at space.modules (address_of_call c.ra interrupted) ≡ Some holder
  pub unsearched : IsUnsearched holder.tables
  pub unprepared : index_at space.added (address_of_call c.ra interrupted) ≡ None

-- The number of pairs of each module's header, and that of the descriptions of each index, can be written with so many binary
-- digits: with none where each module names a frame table, and none is prepared.
abbrev pub CountsWithin : SpaceValue → ℕ → Type 0
CountsWithin space digits = AllByRecursion (λ (m : Module). module_pairs space.image m.tables < 2 ^ digits) space.modules × AllByRecursion (λ (m : Added). len_of (index_of m) < 2 ^ digits) space.added

-- A count of steps doesn't fall, and rises by no more than so many searches take, whichever modules of a space they are in.
abbrev pub RisesWithin : SpaceValue → ℕ → ℕ → ℕ → Type 0
RisesWithin space searches old new = (old ≤ new) × ((digits : ℕ) → CountsWithin space digits → new ≤ old + searches * digits)
