-- What a core's threads are walked over is laid out, and its modules are apart.
use Rattle.std.proofs.Common.{◌≡◌, ◌^◌, ◌<◌, List, [], ◌∷◌, Option, Some, None, refl, ap, arith, lit<}
use Rattle.std.specs.Prelude.{is_none}
use Rattle.memory_image.specs.Image.{Span, IsLaidOut, refusal}
use Rattle.memory_image.specs.declared.errors.ImageError.{ImageError}
use Rattle.memory_image.proofs.SpanAdds.{laid-with_span}
use Rattle.stack_steps.specs.declared.space.Module.{Module}
use Rattle.stack_steps.specs.declared.space.SpaceError.{SpaceError}
use Rattle.stack_steps.specs.Modules.{SpaceValue, AreApart, fits, given_refusal}
use Rattle.stack_steps.proofs.Apart.{with_apart}
use Rattle.stack_steps.proofs.Taking.{free_module, free_region}
use Rattle.mapped_modules.specs.Loading.{LoadedValue}
use Rattle.mapped_modules.specs.Spaces.{codes_of, space_of_core, tables_of, with_module, with_modules, with_region, with_regions}

-- ---- memory

laid_region : (image : List Span) (s : Span) → IsLaidOut 0 image → IsLaidOut 0 (with_region image s)
laid_region image s laid = go (refusal image s.start s.bytes) refl
  where
    go : (o : Option ImageError) → refusal image s.start s.bytes ≡ o → IsLaidOut 0 (with_region image s)
    go (Some e) is = rw is laid
    go None is = let free = free_region image s (ap is_none is) in rw is (laid-with_span s image 0 laid (omega arith) free.some free.fits free.apart)

laid_regions : (image ss : List Span) → IsLaidOut 0 image → IsLaidOut 0 (with_regions image ss)
laid_regions image [] laid = laid
laid_regions image (s ∷ ss) laid = laid_regions (with_region image s) ss (laid_region image s laid)

-- ---- modules

apart_module : (space : SpaceValue) (m : Module) → AreApart 0 space.modules → AreApart 0 (with_module space m).modules
apart_module space m apart = go (given_refusal space.modules m) refl
  where
    go : (o : Option SpaceError) → given_refusal space.modules m ≡ o → AreApart 0 (with_module space m).modules
    go (Some e) is = rw is apart
    go None is = let free = free_module space.modules m (ap is_none is) in rw is (with_apart space.modules 0 m apart (omega arith) free.some free.low free.alone)

apart_modules : (space : SpaceValue) (ms : List Module) → AreApart 0 space.modules → AreApart 0 (with_modules space ms).modules
apart_modules space [] apart = apart
apart_modules space (m ∷ ms) apart = apart_modules (with_module space m) ms (apart_module space m apart)

-- a space's memory isn't changed by modules
same_module : (space : SpaceValue) (m : Module) → (with_module space m).image ≡ space.image
same_module space m = go (given_refusal space.modules m) refl
  where
    go : (o : Option SpaceError) → given_refusal space.modules m ≡ o → (with_module space m).image ≡ space.image
    go (Some e) is = rw is refl
    go None is = rw is refl

laid_modules : (space : SpaceValue) (ms : List Module) → IsLaidOut 0 space.image → IsLaidOut 0 (with_modules space ms).image
laid_modules space [] laid = laid
laid_modules space (m ∷ ms) laid = laid_modules (with_module space m) ms (rw (same_module space m) laid)

-- ---- both

-- the memory with no module yet
abbrev before : List LoadedValue → List Span → SpaceValue
before loaded segments = record { image = with_regions (with_regions [] (tables_of loaded)) segments; modules = []; added = [] }

pub core_laid_out : (loaded : List LoadedValue) (segments : List Span) → IsLaidOut 0 (space_of_core loaded segments).image
unfolding space_of_core
core_laid_out loaded segments =
    let tables = with_regions [] (tables_of loaded) in
    laid_modules (before loaded segments) (codes_of loaded) (laid_regions tables segments (laid_regions [] (tables_of loaded) tt))

pub core_apart : (loaded : List LoadedValue) (segments : List Span) → AreApart 0 (space_of_core loaded segments).modules
unfolding space_of_core
core_apart loaded segments = let low : 0 < 2 ^ 64 = lit< tt in apart_modules (before loaded segments) (codes_of loaded) low
