-- A core file that is taken: what the test says, that its memory is laid out, and that its modules are apart.
use Rattle.std.proofs.Common.{◌≡◌, ℕ, Bool, true, false, List, [], ◌∷◌, Option, Some, None, Result, Ok, Err, refl, sym, subst, lit<}
use Rattle.std.specs.Prelude.{is_ok, is_none, is_some, suc, codes, ◌&&◌, if◌then◌else◌}
use Rattle.std.specs.Option.{option_map, option_and_then}
use Rattle.serde_json.specs.Data.{Data}
use Rattle.serde_json.specs.Find.{get, as_array}
use Rattle.memory_image.specs.declared.errors.ImageError.{ImageError}
use Rattle.memory_image.specs.Image.{Span, IsLaidOut, refusal, with_span}
use Rattle.core_file.specs.declared.errors.CoreError.{CoreError}
use Rattle.core_file.specs.CoreValue.{CoreValue, core_of}
use Rattle.core_file.specs.Adding.{first_refused, with_spans}
use Rattle.memory_image.specs.Results.{◌>>=◌}
use Rattle.stack_steps.specs.Modules.{AreApart}
use Rattle.stack_snapshot.specs.declared.cores.CoreSnapshotError.{CoreSnapshotError}
use Rattle.stack_snapshot.specs.declared.errors.Field.{Field}
use Rattle.stack_snapshot.specs.declared.errors.Field.TheVariants as fields
use Rattle.stack_snapshot.specs.Answers.{value_of}
use Rattle.stack_snapshot.specs.Content.{image_of, takes_modules, takes_regions}
use Rattle.stack_snapshot.specs.Fields.{bytes_at}
use Rattle.stack_snapshot.specs.Snapshot.{limit_of, listed_regions, module_list, modules_of, needs, whole_numbers}
use Rattle.stack_snapshot.specs.Cores.{CoreContent, IsTaken, value_or_none, by_core, by_field, unless_refused, taken_core, segments_of, segments_image, if_taken_after, regions_after, core_content_in, core_content_by, core_content_of, core_space_of}
use Rattle.stack_snapshot.proofs.Taken.{apart_after, bound, laid_after, needed, spaced}

-- bytes of which the test says so
pub taken_is : (file : List ℕ) (done : Unit {0}) → taken_core file ≡ Ok done → IsTaken file
unfolding taken_core
taken_is file done e = go (core_of file) e
  where
    first : (o : Option ℕ) → unless_refused o ≡ Ok done → is_none o ≡ true
    first None e = refl
    first (Some i) e = absurd cc

    go : (r : Result CoreValue CoreError) → (by_core r >>= λ core. unless_refused (first_refused [] core.segments)) ≡ Ok done → (is_ok r ≡ true) × (is_none (first_refused [] (value_or_none r).segments) ≡ true)
    go (Ok v) e = (refl, first (first_refused [] v.segments) e)
    go (Err error) e = absurd cc

-- ---- the memory of a core file that is read is laid out, and its modules are apart

-- regions of which none is refused are taken
are_free : (image ss : List Span) → is_none (first_refused image ss) ≡ true → takes_regions image ss ≡ true
are_free image [] free = refl
are_free image (s ∷ ss) free = go (refusal image s.start s.bytes) (first_refused (with_span s image) ss) (λ later. are_free (with_span s image) ss later) free
  where
    go : (o : Option ImageError) (r : Option ℕ) → (is_none r ≡ true → takes_regions (with_span s image) ss ≡ true) → is_none (if is_some o then Some 0 else option_map suc r) ≡ true → (is_none o && takes_regions (with_span s image) ss) ≡ true
    go None None later e = later refl
    go None (Some i) later e = absurd cc
    go (Some error) r later e = absurd cc

-- a core's segments are added as regions are
same_image : (image ss : List Span) → with_spans image ss ≡ image_of image ss
same_image image [] = refl
same_image image (s ∷ ss) = same_image (with_span s image) ss

segments_laid : (file : List ℕ) → IsTaken file → IsLaidOut 0 (segments_image file)
segments_laid file taken = subst (IsLaidOut 0) (sym (same_image [] (segments_of file))) (laid_after [] (segments_of file) tt (are_free [] (segments_of file) taken.1))

field_read : {A : Type 0} (r : Result A Field) (x : A) → by_field r ≡ Ok x → r ≡ Ok x
field_read (Ok y) x e = cc
field_read (Err field) x e = absurd cc

taken_after : (file : List ℕ) (o : Option (List Span)) (rs : List Span) → option_and_then (if_taken_after file) o ≡ Some rs → takes_regions (segments_image file) rs ≡ true
taken_after file None rs e = absurd cc
taken_after file (Some ns) rs e = go (takes_regions (segments_image file) ns) refl e
  where
    go : (b : Bool) → takes_regions (segments_image file) ns ≡ b → (if b then Some ns else None) ≡ Some rs → takes_regions (segments_image file) rs ≡ true
    go true is e = let same : ns ≡ rs = cc in subst (λ (l : List Span). takes_regions (segments_image file) l ≡ true) same is
    go false is e = absurd cc

-- what is taken of a core file
record AreTaken (c : CoreContent) : Type 0 where
  pub file : IsTaken c.file
  pub regions : takes_regions (segments_image c.file) c.regions ≡ true
  pub modules : takes_modules [] c.modules ≡ true

ok_same : (x y : CoreContent) (r : Result CoreContent CoreSnapshotError) → r ≡ Ok x → r ≡ Ok y → x ≡ y
ok_same x y r is e = cc

parts_taken : (d : Data) (c : CoreContent) → core_content_in d ≡ Ok c → AreTaken c
unfolding core_content_in regions_after modules_of
parts_taken d c is =
    let whole = bound (by_field (needs fields.Object (whole_numbers d))) _ c is in
    let file = bound (by_field (needs fields.Core (bytes_at (codes "core") d))) _ c whole.2 in
    let core = bound (taken_core file.0) _ c file.2 in
    let regions = bound (by_field (needs fields.Regions (regions_after file.0 d))) _ c core.2 in
    let modules = bound (by_field (needs fields.Modules (modules_of d))) _ c regions.2 in
    let limit = bound (by_field (needs fields.Limit (limit_of d))) _ c modules.2 in
    let given : CoreContent = record { file = file.0; regions = regions.0; modules = modules.0; limit = limit.0 } in
    let same : given ≡ c = ok_same given c (Ok given) refl limit.2 in
    subst AreTaken same (record {
      file = taken_is file.0 core.0 core.1;
      regions = taken_after file.0 (listed_regions d) regions.0 (needed fields.Regions (regions_after file.0 d) regions.0 (field_read (needs fields.Regions (regions_after file.0 d)) regions.0 regions.1));
      modules = spaced (option_and_then module_list (option_and_then as_array (get (codes "modules") d))) modules.0 (needed fields.Modules (modules_of d) modules.0 (field_read (needs fields.Modules (modules_of d)) modules.0 modules.1));
    })

are_taken : (bytes : List ℕ) (c : CoreContent) → core_content_of bytes ≡ Ok c → AreTaken c
are_taken bytes c is = go (value_of bytes) is
  where
    go : (o : Option Data) → core_content_by o ≡ Ok c → AreTaken c
    go None e = absurd cc
    go (Some d) e = parts_taken d c e

-- the memory of a core file and its regions is laid out
pub core_laid_out : (bytes : List ℕ) (c : CoreContent) → core_content_of bytes ≡ Ok c → IsLaidOut 0 (core_space_of c).image
core_laid_out bytes c is = let t = are_taken bytes c is in laid_after (segments_image c.file) c.regions (segments_laid c.file t.file) t.regions

-- its modules are apart
pub core_apart : (bytes : List ℕ) (c : CoreContent) → core_content_of bytes ≡ Ok c → AreApart 0 (core_space_of c).modules
core_apart bytes c is = apart_after [] c.modules (lit< tt) (are_taken bytes c is).modules
