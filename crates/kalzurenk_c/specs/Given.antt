-- The memory and the modules that a caller hands in.
use Rattle.std.specs.Prelude.{◌≡◌, ◌⊎◌, ℕ, ◌+◌, ◌^◌, ◌==◌, ◌&&◌, Bool, List, [], ◌∷◌, map, Option, Some, None, Result, Ok, Err, nat_lt, if◌then◌else◌}
use Rattle.memory_image.specs.Image.{Span, refusal, with_span}
use Rattle.memory_image.specs.Results.{◌>>=◌}
use Rattle.fde_finders.specs.declared.custom.FrameInfoKind.{FrameInfoKind}
use Rattle.fde_finders.specs.declared.custom.FrameInfoKind.TheVariants.{EhFrame, EhFrameHdr}
use Rattle.unwind_arch.specs.declared.x86_64.Context.{Context}
use Rattle.format_frames.specs.declared.machine.Stepped.{Stepped}
use Rattle.stack_steps.specs.declared.space.Module.{Module}
use Rattle.stack_steps.specs.declared.space.ModuleTables.{ModuleTables}
use Rattle.stack_steps.specs.declared.space.ModuleTables.TheVariants.{Elf, Macho, Pe}
use Rattle.stack_steps.specs.Modules.{SpaceValue, given_refusal, with_added}
use Rattle.kalzurenk_c.specs.declared.given.Region.{Region}
use Rattle.kalzurenk_c.specs.declared.given.GivenModule.{GivenModule}
use Rattle.kalzurenk_c.specs.declared.given.Registers.{Registers}
use Rattle.kalzurenk_c.specs.declared.refusal.Refusal.{Refusal}
use Rattle.kalzurenk_c.specs.declared.refusal.Refusal.TheVariants as refused
use Rattle.kalzurenk_c.specs.Sizes.{if_sized, module_size, region_size}

-- the registers from which a stack is walked
abbrev pub context_of : Registers → Context
context_of r = record { registers = r.general; ra = r.ip; mcxsr = 0; fcw = 0 }

-- the state from which it is walked, interrupted where it stands or stopped in a call
abbrev pub start_given : Registers → Bool → Stepped
start_given r interrupted = record { context = context_of r; signal = interrupted }

-- ---- regions

-- bytes at an address, and the size that their struct has for its caller
pub record SizedSpan : Type 0 where
  pub size : ℕ
  pub span : Span

abbrev pub span_of : Region → SizedSpan
span_of r = record { size = r.size; span = record { start = r.address; bytes = r.bytes.now } }

abbrev pub spans_of : List Region → List SizedSpan
spans_of = map span_of

-- what follows, unless there is a cause against it
abbrev pub unless_refused : {A E : Type 0} → (E → Refusal) → Option E → Result A Refusal → Result A Refusal
unless_refused refuse None more = more
unless_refused refuse (Some e) more = Err (refuse e)

-- The image after these regions are added, in their order, or the first that isn't taken. The first is at a place of its list.
abbrev pub image_after : ℕ → List Span → List SizedSpan → Result (List Span) Refusal
image_after place image [] = Ok image
image_after place image (s ∷ ss) =
    if_sized s.size region_size (refused.RegionSize place)
    (unless_refused (refused.Region place) (refusal image s.span.start s.span.bytes) (image_after (place + 1) (with_span s.span image) ss))

-- ---- modules

abbrev pub nonzero : ℕ → Option ℕ
nonzero n = if n == 0 then None else Some n

abbrev pub elf_given : FrameInfoKind → ℕ → ModuleTables
elf_given kind text = Elf (record { text_base = nonzero text; kind = kind })

abbrev pub pe_given : ℕ → ℕ → Option ModuleTables
pe_given tables size = if nat_lt tables (2 ^ 32) && nat_lt size (2 ^ 32) then Some (Pe (record { table_rva = tables; table_size = size })) else None

-- the tables of a module, by the number of its format
abbrev pub tables_given : ℕ → ℕ → ℕ → Option ModuleTables
tables_given format tables more =
    if format == 0 then Some (elf_given (EhFrame tables) more)
    else (if format == 1 then Some (elf_given (EhFrameHdr tables) more)
    else (if format == 2 then Some (Macho (record { unwind_info = tables; frames = nonzero more }))
    else (if format == 3 then pe_given tables more
    else None)))

abbrev pub module_with : ℕ → ℕ → Option ModuleTables → Option Module
module_with start end None = None
module_with start end (Some tables) = Some (record { start = start; end = end; tables = tables })

abbrev pub module_given : GivenModule → Option Module
module_given g = module_with g.start g.end (tables_given g.format g.tables g.more)

abbrev pub after_module : ℕ → SpaceValue → Option Module → (SpaceValue → Result SpaceValue Refusal) → Result SpaceValue Refusal
after_module place space None more = Err (refused.Format place)
after_module place space (Some m) more = unless_refused (refused.Module place) (given_refusal space.modules m) (more (with_added m space))

-- The space after these modules are added, in their order, or the first that isn't taken.
abbrev pub space_after : ℕ → SpaceValue → List GivenModule → Result SpaceValue Refusal
space_after place space [] = Ok space
space_after place space (g ∷ gs) =
    if_sized g.size module_size (refused.ModuleSize place) (after_module place space (module_given g) (λ s. space_after (place + 1) s gs))

-- ---- both

abbrev pub empty_space : List Span → SpaceValue
empty_space image = record { image = image; modules = []; added = [] }

-- The space of regions and modules, none of which is prepared, or the first that isn't taken: a region before any module.
abbrev pub space_given : List Region → List GivenModule → Result SpaceValue Refusal
space_given regions modules = image_after 0 [] (spans_of regions) >>= λ image. space_after 0 (empty_space image) modules

-- ---- what calls answer

-- what is due, unless memory ran out
abbrev pub GivesUnlessNoMemory : {A : Type 0} → Result A Refusal → Result A Refusal → Type 0
GivesUnlessNoMemory (Ok x) due = due ≡ Ok x
GivesUnlessNoMemory (Err e) due = (e ≡ refused.NoMemory) ⊎ (due ≡ Err e)

-- the same of what is left in place
abbrev pub LeavesUnlessNoMemory : {A B : Type 0} → Result B Refusal → A → Result A Refusal → Type 0
LeavesUnlessNoMemory (Ok done) left due = due ≡ Ok left
LeavesUnlessNoMemory (Err e) left due = (e ≡ refused.NoMemory) ⊎ (due ≡ Err e)
