-- What holds of each snapshot: its memory is laid out, its modules are apart, and its start has sixteen registers.
use Rattle.std.proofs.Common.{◌≡◌, ℕ, suc, Bool, true, false, List, [], ◌∷◌, length, Option, Some, None, Result, Ok, Err, refl, sym, ap, subst, ◌∙◌, arith, lit<}
use Rattle.std.specs.Prelude.{is_none, codes, if◌then◌else◌}
use Rattle.std.specs.Option.{option_map, option_and_then}
use Rattle.serde_json.specs.Data.{Data}
use Rattle.serde_json.specs.Find.{get, as_array}
use Rattle.memory_image.specs.Image.{Span, IsLaidOut, refusal, with_span}
use Rattle.memory_image.proofs.SpanAdds.{laid-with_span}
use Rattle.unwind_laws.proofs.Booleans as lists
use Rattle.unwind_arch.specs.declared.x86_64.Context.{Context}
use Rattle.stack_steps.specs.declared.space.Module.{Module}
use Rattle.stack_steps.specs.Modules.{AreApart, given_refusal, with_module}
use Rattle.stack_steps.proofs.Apart.{with_apart}
use Rattle.stack_steps.proofs.Taking.{free_module, free_region}
use Rattle.stack_steps.proofs.ContextLemmas.{IsWhole}
use Rattle.stack_snapshot.specs.declared.errors.Field.{Field}
use Rattle.stack_snapshot.specs.declared.errors.Field.TheVariants as fields
use Rattle.stack_snapshot.specs.Content.{Content, takes_regions, takes_modules, image_of, modules_after, space_of}
use Rattle.stack_snapshot.specs.Fields.{word_at, word_or_zero_at}
use Rattle.memory_image.specs.Results.{◌>>=◌}
use Rattle.stack_snapshot.specs.Snapshot.{needs, if_taken, region_list, if_space_takes, module_list, whole_numbers, regions_of, modules_of, registers_in, register_names, context_with, start_in, start_of, resumes_of, limit_of, interrupted_of, snapshot_of}
use Rattle.stack_snapshot.specs.Answers.{value_of, content_with, content_by, content_of}

-- ---- a snapshot's modules are apart

pub apart_after : (taken ms : List Module) → AreApart 0 taken → takes_modules taken ms ≡ true → AreApart 0 (modules_after taken ms)
apart_after taken [] apart takes = apart
apart_after taken (m ∷ ms) apart takes =
    let both = lists.both_true (is_none (given_refusal taken m)) (takes_modules (with_module m taken) ms) takes in
    let free = free_module taken m both.0 in
    apart_after (with_module m taken) ms (with_apart taken 0 m apart (omega arith) free.some free.low free.alone) both.1

-- ---- its memory is laid out

pub laid_after : (image ss : List Span) → IsLaidOut 0 image → takes_regions image ss ≡ true → IsLaidOut 0 (image_of image ss)
laid_after image [] laid takes = laid
laid_after image (s ∷ ss) laid takes =
    let both = lists.both_true (is_none (refusal image s.start s.bytes)) (takes_regions (with_span s image) ss) takes in
    let free = free_region image s both.0 in
    laid_after (with_span s image) ss (laid-with_span s image 0 laid (omega arith) free.some free.fits free.apart) both.1

pub taken : (o : Option (List Span)) (rs : List Span) → option_and_then if_taken o ≡ Some rs → takes_regions [] rs ≡ true
taken None rs e = absurd cc
taken (Some ns) rs e = go (takes_regions [] ns) refl e
  where
    go : (b : Bool) → takes_regions [] ns ≡ b → (if b then Some ns else None) ≡ Some rs → takes_regions [] rs ≡ true
    go true is e = let same : ns ≡ rs = cc in subst (λ (l : List Span). takes_regions [] l ≡ true) same is
    go false is e = absurd cc

-- ---- what is read

-- a reading that gave a value began with one
pub bound : {A B E : Type 0} (r : Result A E) (f : A → Result B E) (y : B) → (r >>= f) ≡ Ok y → (x : A) × (r ≡ Ok x) × (f x ≡ Ok y)
bound (Ok x) f y e = (x, refl, e)
bound (Err e) f y is = absurd cc

pub needed : {A : Type 0} (field : Field) (o : Option A) (x : A) → needs field o ≡ Ok x → o ≡ Some x
needed field None x e = absurd cc
needed field (Some y) x e = cc

pub spaced : (o : Option (List Module)) (ms : List Module) → option_and_then if_space_takes o ≡ Some ms → takes_modules [] ms ≡ true
spaced None ms e = absurd cc
spaced (Some ns) ms e = go (takes_modules [] ns) refl e
  where
    go : (b : Bool) → takes_modules [] ns ≡ b → (if b then Some ns else None) ≡ Some ms → takes_modules [] ms ≡ true
    go true is e = let same : ns ≡ ms = cc in subst (λ (l : List Module). takes_modules [] l ≡ true) same is
    go false is e = absurd cc

abbrev ok : Content → Result Content Field
ok s = Ok s

ok_same : (x y : Content) → ok x ≡ Ok y → x ≡ y
ok_same x y e = cc

-- a snapshot's modules are taken, one after another
pub modules_taken : (d : Data) (s : Content) → snapshot_of d ≡ Ok s → takes_modules [] s.modules ≡ true
unfolding snapshot_of modules_of
modules_taken d s is =
    let whole = bound (needs fields.Object (whole_numbers d)) _ s is in
    let regions = bound (needs fields.Regions (regions_of d)) _ s whole.2 in
    let modules = bound (needs fields.Modules (modules_of d)) _ s regions.2 in
    let start = bound (needs fields.Start (start_of d)) _ s modules.2 in
    let exception = bound (needs fields.Exception (word_or_zero_at (codes "exception") d)) _ s start.2 in
    let class = bound (needs fields.Class (word_or_zero_at (codes "class") d)) _ s exception.2 in
    let resumes = bound (needs fields.Resumes (resumes_of d)) _ s class.2 in
    let limit = bound (needs fields.Limit (limit_of d)) _ s resumes.2 in
    let interrupted = bound (needs fields.Interrupted (interrupted_of d)) _ s limit.2 in
    let same : modules.0 ≡ s.modules = ap (λ (c : Content). c.modules) (ok_same _ s interrupted.2) in
    subst (λ (ms : List Module). takes_modules [] ms ≡ true) same (spaced (option_and_then module_list (option_and_then as_array (get (codes "modules") d))) modules.0 (needed fields.Modules (modules_of d) modules.0 modules.1))

-- its regions are
regions_taken : (d : Data) (s : Content) → snapshot_of d ≡ Ok s → takes_regions [] s.regions ≡ true
unfolding snapshot_of regions_of
regions_taken d s is =
    let whole = bound (needs fields.Object (whole_numbers d)) _ s is in
    let regions = bound (needs fields.Regions (regions_of d)) _ s whole.2 in
    let modules = bound (needs fields.Modules (modules_of d)) _ s regions.2 in
    let start = bound (needs fields.Start (start_of d)) _ s modules.2 in
    let exception = bound (needs fields.Exception (word_or_zero_at (codes "exception") d)) _ s start.2 in
    let class = bound (needs fields.Class (word_or_zero_at (codes "class") d)) _ s exception.2 in
    let resumes = bound (needs fields.Resumes (resumes_of d)) _ s class.2 in
    let limit = bound (needs fields.Limit (limit_of d)) _ s resumes.2 in
    let interrupted = bound (needs fields.Interrupted (interrupted_of d)) _ s limit.2 in
    let same : regions.0 ≡ s.regions = ap (λ (c : Content). c.regions) (ok_same _ s interrupted.2) in
    subst (λ (rs : List Span). takes_regions [] rs ≡ true) same (taken (option_and_then region_list (option_and_then as_array (get (codes "regions") d))) regions.0 (needed fields.Regions (regions_of d) regions.0 regions.1))

-- the memory of what bytes say is laid out
pub content_laid_out : (bytes : List ℕ) (s : Content) → content_of bytes ≡ Ok s → IsLaidOut 0 (space_of s).image
content_laid_out bytes s is = go (value_of bytes) is
  where
    go : (o : Option Data) → content_by o ≡ Ok s → IsLaidOut 0 (space_of s).image
    go None e = absurd cc
    go (Some d) e = said (snapshot_of d) refl e
      where
        said : (r : Result Content Field) → snapshot_of d ≡ r → content_with r ≡ Ok s → IsLaidOut 0 (space_of s).image
        said (Ok t) reads e = let same : t ≡ s = cc in laid_after [] s.regions tt (regions_taken d s (reads ∙ ap Ok same))
        said (Err f) reads e = absurd cc

-- the modules of what bytes say are apart
pub content_apart : (bytes : List ℕ) (s : Content) → content_of bytes ≡ Ok s → AreApart 0 (space_of s).modules
content_apart bytes s is = go (value_of bytes) is
  where
    go : (o : Option Data) → content_by o ≡ Ok s → AreApart 0 (space_of s).modules
    go None e = absurd cc
    go (Some d) e = said (snapshot_of d) refl e
      where
        said : (r : Result Content Field) → snapshot_of d ≡ r → content_with r ≡ Ok s → AreApart 0 (space_of s).modules
        said (Ok t) reads e = let same : t ≡ s = cc in apart_after [] s.modules (lit< tt) (modules_taken d s (reads ∙ ap Ok same))
        said (Err f) reads e = absurd cc

-- ---- a snapshot's start has sixteen registers

registers_many : (keys : List (List ℕ)) (d : Data) (ws : List ℕ) → registers_in keys d ≡ Some ws → length ws ≡ length keys
registers_many [] d ws e = let same : [] ≡ ws = cc in ap length (sym same)
registers_many (key ∷ keys) d ws e = go (word_or_zero_at key d) (registers_in keys d) (λ vs reads. registers_many keys d vs reads) e
  where
    go : (w : Option ℕ) (o : Option (List ℕ)) → ((vs : List ℕ) → o ≡ Some vs → length vs ≡ length keys) → option_and_then (λ w. option_map (λ ws. w ∷ ws) o) w ≡ Some ws → length ws ≡ length (key ∷ keys)
    go None o many e = absurd cc
    go (Some w) None many e = absurd cc
    go (Some w) (Some vs) many e =
        let same : w ∷ vs ≡ ws = cc in
        let count : length vs ≡ length keys = many vs refl in
        ap length (sym same) ∙ ap suc count

-- what a start is read from
start_whole : (d : Data) (c : Context) → start_of d ≡ Some c → IsWhole c
unfolding start_of
start_whole d c reads = go (get (codes "start") d) reads
  where
    registered : (rip : ℕ) (e : Data) (o : Option (List ℕ)) → registers_in register_names e ≡ o → option_map (context_with rip) o ≡ Some c → IsWhole c
    registered rip e None is h = absurd cc
    registered rip e (Some ws) is h =
        let same : context_with rip ws ≡ c = cc in
        subst IsWhole same (registers_many register_names e ws is)

    by_stack : (rip : ℕ) (e : Data) (o : Option ℕ) → option_and_then (λ rsp. option_map (context_with rip) (registers_in register_names e)) o ≡ Some c → IsWhole c
    by_stack rip e None h = absurd cc
    by_stack rip e (Some rsp) h = registered rip e (registers_in register_names e) refl h

    by_address : (e : Data) (o : Option ℕ) → option_and_then (λ rip. option_and_then (λ rsp. option_map (context_with rip) (registers_in register_names e)) (word_at (codes "rsp") e)) o ≡ Some c → IsWhole c
    by_address e None h = absurd cc
    by_address e (Some rip) h = by_stack rip e (word_at (codes "rsp") e) h

    go : (o : Option Data) → option_and_then start_in o ≡ Some c → IsWhole c
    go None h = absurd cc
    go (Some e) h = by_address e (word_at (codes "rip") e) h

start_taken : (d : Data) (s : Content) → snapshot_of d ≡ Ok s → IsWhole s.start
unfolding snapshot_of
start_taken d s is =
    let whole = bound (needs fields.Object (whole_numbers d)) _ s is in
    let regions = bound (needs fields.Regions (regions_of d)) _ s whole.2 in
    let modules = bound (needs fields.Modules (modules_of d)) _ s regions.2 in
    let start = bound (needs fields.Start (start_of d)) _ s modules.2 in
    let exception = bound (needs fields.Exception (word_or_zero_at (codes "exception") d)) _ s start.2 in
    let class = bound (needs fields.Class (word_or_zero_at (codes "class") d)) _ s exception.2 in
    let resumes = bound (needs fields.Resumes (resumes_of d)) _ s class.2 in
    let limit = bound (needs fields.Limit (limit_of d)) _ s resumes.2 in
    let interrupted = bound (needs fields.Interrupted (interrupted_of d)) _ s limit.2 in
    let same : start.0 ≡ s.start = ap (λ (c : Content). c.start) (ok_same _ s interrupted.2) in
    subst IsWhole same (start_whole d start.0 (needed fields.Start (start_of d) start.0 start.1))

-- the start that bytes say has sixteen registers
pub content_whole : (bytes : List ℕ) (s : Content) → content_of bytes ≡ Ok s → IsWhole s.start
content_whole bytes s is = go (value_of bytes) is
  where
    go : (o : Option Data) → content_by o ≡ Ok s → IsWhole s.start
    go None e = absurd cc
    go (Some d) e = said (snapshot_of d) refl e
      where
        said : (r : Result Content Field) → snapshot_of d ≡ r → content_with r ≡ Ok s → IsWhole s.start
        said (Ok t) reads e = let same : t ≡ s = cc in start_taken d s (reads ∙ ap Ok same)
        said (Err f) reads e = absurd cc
