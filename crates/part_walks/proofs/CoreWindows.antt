-- The walk of a core's thread over windows of the core's segments, where it meets nothing unmapped, is that over the segments.
use Rattle.std.proofs.Common.{◌≡◌, ℕ, Bool, true, false, cond, ltb, is_some, List, [], ◌∷◌, Option, Some, None, refl, sym, ap, subst, ◌∙◌}
use Rattle.std.specs.List.{AllByRecursion}
use Rattle.memory_image.specs.Image.{Span, IsLaidOut}
use Rattle.unwind_arch.specs.declared.x86_64.Context.{Context}
use Rattle.stack_steps.specs.declared.space.Module.{Module}
use Rattle.stack_steps.specs.declared.space.SpaceError.{SpaceError}
use Rattle.stack_steps.specs.Growing.{over_image}
use Rattle.stack_steps.specs.Modules.{SpaceValue, given_refusal, with_added}
use Rattle.stack_steps.specs.Modules as modules
use Rattle.stack_walks.specs.Lines.{line_of}
use Rattle.mapped_modules.specs.Loading.{LoadedValue}
use Rattle.mapped_modules.specs.Spaces.{codes_of, space_of_core, with_modules, with_regions}
use Rattle.part_walks.specs.Parts.{HasRegion, HasTables, HaveTables, IsMapped, IsPartOf}
use Rattle.part_walks.specs.Windows.{AreWindowsOf, IsWindowOf, image_of_tables}
use Rattle.part_walks.proofs.BuiltParts.{grows_with_regions, has_region, has_within, part_with_regions}
use Rattle.part_walks.proofs.PartSteps.{walk_whole}
use Rattle.part_walks.proofs.PartTables.{grown_part}

-- ---- modules that are added

-- what a space takes doesn't depend on its image
over_modules : (image : List Span) (ms : List Module) (space : SpaceValue) → with_modules (over_image space image) ms ≡ over_image (with_modules space ms) image
over_modules image [] space = refl
over_modules image (m ∷ ms) space = go (given_refusal space.modules m) (over_modules image ms)
  where
    go : (o : Option SpaceError) → ((s : SpaceValue) → with_modules (over_image s image) ms ≡ over_image (with_modules s ms) image) →
        with_modules (cond (is_some o) (over_image space image) (with_added m (over_image space image))) ms ≡ over_image (with_modules (cond (is_some o) space (with_added m space)) ms) image
    go None later = later (with_added m space)
    go (Some e) later = later space

module _ (tables : List Span) where
  have_one_more : (m : Module) (ms : List Module) → HasTables tables m.tables → HaveTables tables ms → HaveTables tables (modules.with_module m ms)
  have_one_more m [] has have = (has, tt)
  have_one_more m (n ∷ ns) has have = go (ltb m.start n.start) (have_one_more m ns has have.1)
    where
      go : (b : Bool) → HaveTables tables (modules.with_module m ns) → HaveTables tables (cond b (m ∷ n ∷ ns) (n ∷ modules.with_module m ns))
      go true later = (has, have)
      go false later = (have.0, later)

  have_more : (ms : List Module) (space : SpaceValue) → HaveTables tables ms → HaveTables tables space.modules → HaveTables tables (with_modules space ms).modules
  have_more [] space more have = have
  have_more (m ∷ ms) space more have = go (given_refusal space.modules m) (λ s. have_more ms s more.1)
    where
      go : (o : Option SpaceError) → ((s : SpaceValue) → HaveTables tables s.modules → HaveTables tables (with_modules s ms).modules) → HaveTables tables (with_modules (cond (is_some o) space (with_added m space)) ms).modules
      go None later = later (with_added m space) (have_one_more m space.modules more.0 have)
      go (Some e) later = later space have

-- ---- the space of a core

-- its modules, over no memory
abbrev pub modules_alone : List LoadedValue → SpaceValue
modules_alone loaded = with_modules (record { image = []; modules = []; added = [] }) (codes_of loaded)

pub core_space : (loaded : List LoadedValue) (segments : List Span) → space_of_core loaded segments ≡ over_image (modules_alone loaded) (with_regions (image_of_tables loaded) segments)
unfolding space_of_core
core_space loaded segments = over_modules (with_regions (image_of_tables loaded) segments) (codes_of loaded) (record { image = []; modules = []; added = [] })

module _ (loaded : List LoadedValue) (segments windows : List Span) (have : HaveTables (image_of_tables loaded) (codes_of loaded)) (laid : IsLaidOut 0 segments) (are : AreWindowsOf (image_of_tables loaded) segments windows) where
  abbrev tables : List Span
  tables = image_of_tables loaded

  abbrev part : List Span
  part = with_regions tables windows

  abbrev whole : List Span
  whole = with_regions tables segments

  pub core_tables : HaveTables tables (modules_alone loaded).modules
  core_tables = have_more tables (codes_of loaded) (record { image = []; modules = []; added = [] }) have tt

  each_had : (ws : List Span) → AreWindowsOf tables segments ws → AllByRecursion (HasRegion whole) ws
  each_had [] each = tt
  each_had (w ∷ ws) each = (has_window each.0, each_had ws each.1)
    where
      has_window : IsWindowOf tables segments w → HasRegion whole w
      has_window is = has_within whole w is.segment (has_region tables segments 0 is.place is.segment laid is.among is.apart) is.within

  pub core_part : IsPartOf part whole
  core_part = part_with_regions tables whole windows (grown_part tables whole (grows_with_regions tables segments)) (each_had windows are)

  pub core_walk : (limit : ℕ) (c : Context) (interrupted : Bool) → IsMapped (line_of (space_of_core loaded windows) limit c interrupted) → line_of (space_of_core loaded segments) limit c interrupted ≡ line_of (space_of_core loaded windows) limit c interrupted
  core_walk limit c interrupted mapped =
      ap (λ s. line_of s limit c interrupted) (core_space loaded segments)
      ∙ (walk_whole (modules_alone loaded) tables part whole core_tables (grows_with_regions tables windows) (grows_with_regions tables segments) core_part limit c interrupted (subst (λ (s : SpaceValue). IsMapped (line_of s limit c interrupted)) (core_space loaded windows) mapped)
      ∙ sym (ap (λ s. line_of s limit c interrupted) (core_space loaded windows)))
