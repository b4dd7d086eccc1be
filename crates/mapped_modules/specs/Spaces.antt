-- What a core's threads are walked over.
use Rattle.std.specs.Prelude.{ℕ, List, [], ◌∷◌, map, is_some, if◌then◌else◌}
use Rattle.memory_image.specs.Image.{Span, refusal, with_span}
use Rattle.stack_steps.specs.declared.space.Module.{Module}
use Rattle.stack_steps.specs.Modules.{SpaceValue, given_refusal, with_added}
use Rattle.mapped_modules.specs.Loading.{LoadedValue}

-- the image with one region more, where it is taken
abbrev pub with_region : List Span → Span → List Span
with_region image s = if is_some (refusal image s.start s.bytes) then image else with_span s image

-- with regions, one after another
abbrev pub with_regions : List Span → List Span → List Span
with_regions image [] = image
with_regions image (s ∷ ss) = with_regions (with_region image s) ss

-- the space with one module more, where it is taken
abbrev pub with_module : SpaceValue → Module → SpaceValue
with_module space m = if is_some (given_refusal space.modules m) then space else with_added m space

abbrev pub with_modules : SpaceValue → List Module → SpaceValue
with_modules space [] = space
with_modules space (m ∷ ms) = with_modules (with_module space m) ms

abbrev pub tables_of : List LoadedValue → List Span
tables_of loaded = map (λ (l : LoadedValue). l.table) loaded

abbrev pub codes_of : List LoadedValue → List Module
codes_of loaded = map (λ (l : LoadedValue). l.code) loaded

-- The tables of modules come first, then the segments of memory: one that shares an address with what is there is passed over, since
-- there the memory is that of a file. So is a module that shares an address with an earlier one.
unfoldable pub space_of_core : List LoadedValue → List Span → SpaceValue
space_of_core loaded segments = with_modules (record { image = with_regions (with_regions [] (tables_of loaded)) segments; modules = []; added = [] }) (codes_of loaded)
