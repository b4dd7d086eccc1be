-- Modules in the order of adding are those by start, and their indexes are of the frame tables that they name.
use Rattle.std.proofs.Common.{◌≡◌, inl, inr, ℕ, zero, suc, List, [], ◌∷◌, map, Option, Some, None, refl, subst}
use Rattle.std.specs.Prelude.{◌⊎◌, IfSome, slice_get}
use Rattle.std.specs.List.{AllByRecursion, Contains}
use Rattle.std.specs.Option.{option_map}
use Rattle.memory_image.specs.Image.{Span}
use Rattle.unwind_laws.proofs.Booleans.{first, here_or_later, later, none_in_nil}
use Rattle.stack_steps.specs.declared.prepared.Left.{Left}
use Rattle.stack_steps.specs.declared.prepared.PreparedTable.{PreparedTable}
use Rattle.stack_steps.specs.declared.space.ModuleEntry.{ModuleEntry}
use Rattle.stack_steps.specs.declared.space.AddedModule.{AddedModule}
use Rattle.stack_steps.specs.declared.space.Module.{Module}
use Rattle.stack_steps.specs.declared.space.ModuleTables.{ModuleTables}
use Rattle.stack_steps.specs.declared.space.ModuleTables.TheVariants.{Elf, Macho, Pe}
use Rattle.stack_steps.specs.AddedModule.{IsAddedModule, IsSpace, IsTable, added_of, entry_at, holder_of, index_in, kept_table}
use Rattle.stack_steps.specs.Modules.{SpaceValue, module_of, modules_in}
use Rattle.stack_steps.specs.Preparing.{IsAddedTo, IsIndexIn}

-- the module of an entry is among those by start
by_start : (es : List (ℕ × ModuleEntry)) (e : ℕ × ModuleEntry) → Contains es e → Contains (modules_in es) (module_of e)
by_start [] e has = absurd (none_in_nil e has)
by_start (d ∷ es) e has = go (λ h. by_start es e h) (here_or_later d es e has)
  where
    go : (Contains es e → Contains (modules_in es) (module_of e)) → (d ≡ e) ⊎ Contains es e → Contains (modules_in (d ∷ es)) (module_of e)
    go more (inl same) = subst (λ (x : ℕ × ModuleEntry). Contains (modules_in (d ∷ es)) (module_of x)) same (first (module_of d) (modules_in es))
    go more (inr has) = later (module_of d) (modules_in es) (module_of e) (more has)

index_kept : (image : List Span) (tables : ModuleTables) (o : Option PreparedTable) → IsTable image tables o → IfSome (option_map index_in o) (IsIndexIn image tables)
index_kept image tables None is = tt
index_kept image (Elf tables) (Some t) is = record { table = kept_table t is.pairs; names = is.names; prepared = is.prepared; listed = is.listed }
index_kept image (Macho tables) (Some t) is = absurd is
index_kept image (Pe tables) (Some t) is = absurd is

all_added : (space : SpaceValue) (added_module : List AddedModule) → ((place : ℕ) (m : Module) → slice_get (map holder_of added_module) place ≡ Some m → Contains space.modules m) → AllByRecursion (IsAddedModule space.image) added_module → AllByRecursion (IsAddedTo space) (map added_of added_module)
all_added space [] among are = tt
all_added space (h ∷ hs) among are = (
  record { among = among zero h.holder refl; indexed = index_kept space.image h.holder.tables h.table are.0.is_table },
  all_added space hs (λ place m at. among (suc place) m at) are.1,
)

abbrev pub viewed : List Span → List (ℕ × ModuleEntry) → List AddedModule → SpaceValue
viewed image es added_module = record { image = image; modules = modules_in es; added = map added_of added_module }

pub added_to : (image : List Span) (es : List (ℕ × ModuleEntry)) (added_module : List AddedModule) (left : Left) → IsSpace image es added_module left → AllByRecursion (IsAddedTo (viewed image es added_module)) (map added_of added_module)
added_to image es added_module left is = all_added (viewed image es added_module) added_module (λ place m at. by_start es (entry_at place m) (is.back place m at)) is.are_held
