-- What holds of samples that are read: their memory is laid out, and their modules are apart.
use Rattle.std.proofs.Common.{◌≡◌, ℕ, true, List, [], Option, Some, None, Result, Ok, Err, refl, ap, subst, ◌∙◌, lit<}
use Rattle.std.specs.Prelude.{codes}
use Rattle.std.specs.Option.{option_and_then}
use Rattle.serde_json.specs.Data.{Data}
use Rattle.serde_json.specs.Find.{get, as_array}
use Rattle.memory_image.specs.Image.{Span, IsLaidOut}
use Rattle.stack_steps.specs.declared.space.Module.{Module}
use Rattle.stack_steps.specs.Modules.{AreApart}
use Rattle.stack_snapshot.specs.declared.errors.Field.{Field}
use Rattle.stack_snapshot.specs.declared.errors.Field.TheVariants as fields
use Rattle.stack_snapshot.specs.Answers.{value_of}
use Rattle.stack_snapshot.specs.Content.{takes_regions, takes_modules}
use Rattle.stack_snapshot.specs.Sampled.{SampledContent, depth_of, sampled_by, sampled_in, sampled_of, sampled_space, sampled_with, samples_of}
use Rattle.stack_snapshot.specs.Snapshot.{module_list, modules_of, needs, region_list, regions_of, whole_numbers}
use Rattle.stack_snapshot.proofs.Taken.{apart_after, bound, laid_after, needed, spaced, taken}

abbrev ok : SampledContent → Result SampledContent Field
ok s = Ok s

ok_same : (x y : SampledContent) → ok x ≡ Ok y → x ≡ y
ok_same x y e = cc

-- the regions and the modules of samples are taken, one after another
lists_taken : (d : Data) (s : SampledContent) → sampled_of d ≡ Ok s → (takes_regions [] s.regions ≡ true) × (takes_modules [] s.modules ≡ true)
unfolding sampled_of regions_of modules_of
lists_taken d s is =
    let whole = bound (needs fields.Object (whole_numbers d)) _ s is in
    let regions = bound (needs fields.Regions (regions_of d)) _ s whole.2 in
    let modules = bound (needs fields.Modules (modules_of d)) _ s regions.2 in
    let samples = bound (needs fields.Samples (samples_of d)) _ s modules.2 in
    let limit = bound (needs fields.Limit (depth_of d)) _ s samples.2 in
    let same = ok_same _ s limit.2 in
    let regions_same : regions.0 ≡ s.regions = ap (λ (c : SampledContent). c.regions) same in
    let modules_same : modules.0 ≡ s.modules = ap (λ (c : SampledContent). c.modules) same in (
      subst (λ (rs : List Span). takes_regions [] rs ≡ true) regions_same (taken (option_and_then region_list (option_and_then as_array (get (codes "regions") d))) regions.0 (needed fields.Regions (regions_of d) regions.0 regions.1)),
      subst (λ (ms : List Module). takes_modules [] ms ≡ true) modules_same (spaced (option_and_then module_list (option_and_then as_array (get (codes "modules") d))) modules.0 (needed fields.Modules (modules_of d) modules.0 modules.1)),
    )

abbrev AreTaken : SampledContent → Type 0
AreTaken s = IsLaidOut 0 (sampled_space s).image × AreApart 0 (sampled_space s).modules

are_taken : (bytes : List ℕ) (s : SampledContent) → sampled_in bytes ≡ Ok s → AreTaken s
are_taken bytes s is = go (value_of bytes) is
  where
    go : (o : Option Data) → sampled_by o ≡ Ok s → AreTaken s
    go None e = absurd cc
    go (Some d) e = said (sampled_of d) refl e
      where
        said : (r : Result SampledContent Field) → sampled_of d ≡ r → sampled_with r ≡ Ok s → AreTaken s
        said (Ok t) reads e =
            let same : t ≡ s = cc in
            let both = lists_taken d s (reads ∙ ap Ok same) in
            (laid_after [] s.regions tt both.0, apart_after [] s.modules (lit< tt) both.1)
        said (Err f) reads e = absurd cc

-- the memory of samples is laid out
pub sampled_laid_out : (bytes : List ℕ) (s : SampledContent) → sampled_in bytes ≡ Ok s → IsLaidOut 0 (sampled_space s).image
sampled_laid_out bytes s is = (are_taken bytes s is).0

-- their modules are apart
pub sampled_apart : (bytes : List ℕ) (s : SampledContent) → sampled_in bytes ≡ Ok s → AreApart 0 (sampled_space s).modules
sampled_apart bytes s is = (are_taken bytes s is).1
