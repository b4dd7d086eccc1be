-- What an image holds after regions were added to it.
use Rattle.std.proofs.Common.{◌≡◌, ℕ, zero, suc, ◌+◌, ◌-◌, ◌<◌, ◌≤◌, Bool, true, false, ◌⊎◌, inl, inr, List, [], ◌∷◌, ◌++◌, length, take, drop, slice_get, Option, Some, None, refl, sym, ap, ◌∙◌, subst, arith}
use Rattle.std.specs.Prelude.{Contains, IsTrue, is_some, option_map, MatchOption, IsOkUnless, OnOk, Result, Ok, Err}
use Rattle.std.proofs.lemmas.Bool.Decides.{nat_tests}
use Rattle.std.proofs.lemmas.List.{length-take-le, length-drop, take_all}
use Rattle.std.proofs.lemmas.List.Elements.{Contains-push, Contains-append_left, Contains-push_cases}
use Rattle.memory_image.specs.declared.errors.ImageError.{ImageError}
use Rattle.memory_image.specs.declared.errors.ImageError.TheVariants.{Empty, Wraps, Overlap, NoMemory}
use Rattle.core_file.specs.declared.errors.AddError.{AddError}
use Rattle.core_file.specs.declared.errors.AddError.TheVariants as adds
use Rattle.memory_image.specs.Image.{Span, holds, table_at, byte_at, refusal, with_span, AddsRegion}
use Rattle.memory_image.specs.ImageLaws.{byte_at-grows}
use Rattle.core_file.specs.Adding.{with_spans, first_refused, error_at, HoldsAlso}

pub holds_none : (image : List Span) → HoldsAlso image [] image
holds_none image = record { kept = λ a b e. e; added = λ s k has h. absurd (nothing s has); only = λ a b e. inl e }
  where
    nothing : (s : Span) → Contains [] s → ⊥
    nothing s has = let lt = has.1 in omega arith

some_at : (xs : List ℕ) (k : ℕ) → k < length xs → (b : ℕ) × (slice_get xs k ≡ Some b)
some_at [] k h = absurd (omega arith)
some_at (x ∷ xs) zero h = (x, refl)
some_at (x ∷ xs) (suc k) h = some_at xs k (omega arith)

get_drop : (xs : List ℕ) (k : ℕ) → slice_get (drop k xs) 0 ≡ slice_get xs k
get_drop [] zero = refl
get_drop [] (suc k) = refl
get_drop (x ∷ xs) zero = refl
get_drop (x ∷ xs) (suc k) = get_drop xs k

module _ (old mid new : List Span) (spans : List Span) (s : Span) (before : HoldsAlso old spans mid) (adds : AddsRegion mid new s.start s.bytes) where
  grown : (a b : ℕ) → byte_at mid a ≡ Some b → byte_at new a ≡ Some b
  grown a b e = byte_at-grows mid new s.start s.bytes adds a b e

  -- each byte of the region that is added
  here : (k : ℕ) → k < length s.bytes → byte_at new (s.start + k) ≡ slice_get s.bytes k
  here k h =
      let inside : holds (record { start = s.start; bytes = s.bytes }) (s.start + k) ≡ true = within s k h in
      let place : s.start + k - s.start ≡ k = omega arith in
      ap (λ (t : List ℕ). slice_get t 0) (adds.tables (s.start + k) ∙ rw (inside, place) refl) ∙ get_drop s.bytes k
    where
      within : (s : Span) (k : ℕ) → k < length s.bytes → holds s (s.start + k) ≡ true
      within s k h = grind (arith, nat_tests)

  there : (t : Span) (k : ℕ) → Contains spans t → k < length t.bytes → byte_at new (t.start + k) ≡ slice_get t.bytes k
  there t k has h = let b = some_at t.bytes k h in grown (t.start + k) b.0 (before.added t k has h ∙ b.1) ∙ sym b.1

  each : (t : Span) (k : ℕ) → Contains (spans ++ s ∷ []) t → k < length t.bytes → byte_at new (t.start + k) ≡ slice_get t.bytes k
  each t k has h = elim (Contains-push_cases spans s t has) [
    | inl earlier ↦ there t k earlier h
    | inr same ↦ subst (λ (u : Span). k < length u.bytes → byte_at new (u.start + k) ≡ slice_get u.bytes k) same (here k) h
  ]

  from : (a b : ℕ) → byte_at new a ≡ Some b → (byte_at old a ≡ Some b) ⊎ ((t : Span) × Contains (spans ++ s ∷ []) t × IsTrue (holds t a))
  from a b e = go (holds s a) refl
    where
      go : (inside : Bool) → holds s a ≡ inside → (byte_at old a ≡ Some b) ⊎ ((t : Span) × Contains (spans ++ s ∷ []) t × IsTrue (holds t a))
      go true is = inr (s, Contains-push spans s, is)
      go false is =
          let same : table_at new a ≡ table_at mid a = adds.tables a ∙ rw is refl in
          let earlier : byte_at mid a ≡ Some b = ap (λ (t : List ℕ). slice_get t 0) (sym same) ∙ e in
          elim (before.only a b earlier) [
            | inl was ↦ inl was
            | inr added ↦ inr (added.0, Contains-append_left spans (s ∷ []) added.0 added.1, added.2)
          ]

  -- one more region
  pub holds_more : HoldsAlso old (spans ++ s ∷ []) new
  holds_more = record { kept = λ a b e. grown a b (before.kept a b e); added = each; only = from }

-- ---- the image with regions, region after region

pub with_spans-push : (image spans : List Span) (s : Span) → with_spans image (spans ++ s ∷ []) ≡ with_span s (with_spans image spans)
with_spans-push image [] s = refl
with_spans-push image (t ∷ ts) s = with_spans-push (with_span t image) ts s

-- the first that is refused after those that were taken
pub refused_next : (image front : List Span) (s : Span) (later : List Span) → first_refused image front ≡ None → first_refused image (front ++ s ∷ later) ≡ option_map (λ k. length front + k) (first_refused (with_spans image front) (s ∷ later))
refused_next image [] s later taken = sym (same (first_refused image (s ∷ later)))
  where
    same : (o : Option ℕ) → option_map (λ k. 0 + k) o ≡ o
    same None = refl
    same (Some k) = ap Some (omega arith)
refused_next image (t ∷ ts) s later taken = go (refused_next (with_span t image) ts s later) (is_some (refusal image t.start t.bytes)) refl
  where
    none_left : (o : Option ℕ) → option_map suc o ≡ None → o ≡ None
    none_left None e = refl
    none_left (Some k) e = absurd cc

    shifted : (o : Option ℕ) → option_map suc (option_map (λ k. length ts + k) o) ≡ option_map (λ k. length (t ∷ ts) + k) o
    shifted None = refl
    shifted (Some k) = ap Some (omega arith)

    go : (first_refused (with_span t image) ts ≡ None → first_refused (with_span t image) (ts ++ s ∷ later) ≡ option_map (λ k. length ts + k) (first_refused (with_spans (with_span t image) ts) (s ∷ later)))
        → (refuses : Bool) → is_some (refusal image t.start t.bytes) ≡ refuses → first_refused image (t ∷ (ts ++ s ∷ later)) ≡ option_map (λ k. length (t ∷ ts) + k) (first_refused (with_spans (with_span t image) ts) (s ∷ later))
    go next true is = let bad : Some 0 ≡ None = rw is at taken in absurd cc
    go next false is =
        let rest : option_map suc (first_refused (with_span t image) ts) ≡ None = rw is at taken in
        rw (is, next (none_left (first_refused (with_span t image) ts) rest)) (shifted (first_refused (with_spans (with_span t image) ts) (s ∷ later)))

-- ---- how far it has come

-- the first k regions were added, and these are left
pub record Stands (old all : List Span) (k : ℕ) (left image : List Span) : Type 0 where
  pub left_is : left ≡ drop k all
  pub within : k ≤ length all
  pub image_is : image ≡ with_spans old (take k all)
  pub holds_is : HoldsAlso old (take k all) image
  pub taken : first_refused old (take k all) ≡ None

pub stands_first : (old all : List Span) → Stands old all 0 all old
stands_first old all = record { left_is = refl; within = omega arith; image_is = refl; holds_is = holds_none old; taken = refl }

-- the next one, and those after it
record HasNext (all : List Span) (k : ℕ) (s : Span) (rest : List Span) : Type 0 where
  within : k < length all
  front : take (k + 1) all ≡ take k all ++ s ∷ []
  whole : all ≡ take k all ++ s ∷ rest
  rest_is : rest ≡ drop (k + 1) all

next_is : (all : List Span) (k : ℕ) (s : Span) (rest : List Span) → s ∷ rest ≡ drop k all → HasNext all k s rest
next_is [] zero s rest e = absurd cc
next_is [] (suc k) s rest e = absurd cc
next_is (t ∷ ts) zero s rest e = let same : s ≡ t = cc in let later : rest ≡ ts = cc in record { within = omega arith; front = rw same refl; whole = rw (same, later) refl; rest_is = later }
next_is (t ∷ ts) (suc k) s rest e =
    let n = next_is ts k s rest e in
    let lt = n.within in
    let more : suc k + 1 ≡ suc (k + 1) = omega arith in
    record { within = omega arith; front = rw more (ap (λ (xs : List Span). t ∷ xs) n.front); whole = ap (λ (xs : List Span). t ∷ xs) n.whole; rest_is = rw more n.rest_is }

refused_there : (image : List Span) (s : Span) (later : List Span) → is_some (refusal image s.start s.bytes) ≡ true → first_refused image (s ∷ later) ≡ Some 0
refused_there image s later is = rw is refl

module _ (old all : List Span) (k : ℕ) (image : List Span) (s : Span) (rest : List Span) (before : Stands old all k (s ∷ rest) image) where
  pub next_within : k < length all
  next_within = (next_is all k s rest before.left_is).within

  front_long : length (take k all) ≡ k
  front_long = length-take-le k all before.within

  pub stands_next : (new : List Span) → AddsRegion image new s.start s.bytes → refusal image s.start s.bytes ≡ None → Stands old all (k + 1) rest new
  stands_next new adds fits =
      let n = next_is all k s rest before.left_is in
      let lt = n.within in
      record {
        left_is = n.rest_is;
        within = omega arith;
        image_is = adds.spans ∙ ap (with_span s) before.image_is ∙ sym (with_spans-push old (take k all) s) ∙ ap (with_spans old) (sym n.front);
        holds_is = subst (λ (xs : List Span). HoldsAlso old xs new) (sym n.front) (holds_more old image new (take k all) s before.holds_is adds);
        taken = ap (first_refused old) n.front ∙ refused_next old (take k all) s [] before.taken ∙ ap (option_map (λ j. length (take k all) + j)) none;
      }
    where
      none : first_refused (with_spans old (take k all)) (s ∷ []) ≡ None
      none = rw (← before.image_is, fits) refl

  -- the image refuses the next one
  pub stands_refused : is_some (refusal image s.start s.bytes) ≡ true → first_refused old all ≡ Some k
  stands_refused refuses =
      let n = next_is all k s rest before.left_is in
      let there : first_refused (with_spans old (take k all)) (s ∷ rest) ≡ Some 0 = rw (← before.image_is) (refused_there image s rest refuses) in
      let place : length (take k all) + 0 ≡ k = let l = front_long in omega arith in
      ap (first_refused old) n.whole ∙ refused_next old (take k all) s rest before.taken ∙ ap (option_map (λ j. length (take k all) + j)) there ∙ ap Some place

-- all were added
pub record AllStand (old all image : List Span) : Type 0 where
  pub image_is : image ≡ with_spans old all
  pub holds_is : HoldsAlso old all image
  pub taken : first_refused old all ≡ None

pub stands_end : (old all : List Span) (k : ℕ) (image : List Span) → Stands old all k [] image → AllStand old all image
stands_end old all k image s =
    let none : drop k all ≡ [] = sym s.left_is in
    let whole : take k all ≡ all = take_all k all (let l : length all - k ≡ 0 = sym (length-drop k all) ∙ ap length none in omega arith) in
    record {
      image_is = s.image_is ∙ ap (with_spans old) whole;
      holds_is = subst (λ (xs : List Span). HoldsAlso old xs image) whole s.holds_is;
      taken = sym (ap (first_refused old) whole) ∙ s.taken;
    }

-- ---- what an image answers

abbrev pub Answers : Option ImageError → Result (Unit {0}) ImageError → Type 0
Answers o r = MatchOption o (IsOkUnless r NoMemory) (λ e. r ≡ Err e)

taken_there : (o : Option ImageError) (x : Unit {0}) → Answers o (Ok x) → o ≡ None
taken_there None x h = refl
taken_there (Some e) x h = absurd cc

pub refused_by : (o : Option ImageError) (e : ImageError) → (e ≡ NoMemory → ⊥) → Answers o (Err e) → is_some o ≡ true
refused_by None e other h = absurd (other h)
refused_by (Some x) e other h = refl

-- ---- what adding then answers

abbrev pub StopsSo : Option ℕ → Result (Unit {0}) AddError → Type 0
StopsSo f r = MatchOption f (IsOkUnless r adds.NoMemory) (λ i. (r ≡ Err (adds.Region i)) ⊎ (r ≡ Err adds.NoMemory))

out_of_memory : (f : Option ℕ) → StopsSo f (Err adds.NoMemory)
out_of_memory None = refl
out_of_memory (Some i) = inr refl

at_region : (f : Option ℕ) (k : ℕ) → f ≡ Some k → StopsSo f (Err (adds.Region k))
at_region f k e = subst (λ (g : Option ℕ). StopsSo g (Err (adds.Region k))) (sym e) (inl refl)

-- the region at which it stops is the first that is refused, unless memory ran out
pub stops_so : (f : Option ℕ) (k : ℕ) (e : ImageError) → ((e ≡ NoMemory → ⊥) → f ≡ Some k) → StopsSo f (Err (error_at k e))
stops_so f k NoMemory there = out_of_memory f
stops_so f k Empty there = at_region f k (there (λ e. cc))
stops_so f k Wraps there = at_region f k (there (λ e. cc))
stops_so f k (Overlap a) there = at_region f k (there (λ e. cc))

pub stops_at : (f : Option ℕ) (k i : ℕ) (e : ImageError) → ((e ≡ NoMemory → ⊥) → f ≡ Some k) → error_at k e ≡ adds.Region i → (f ≡ Some i) × (k ≡ i)
stops_at f k i NoMemory there same = absurd cc
stops_at f k i Empty there same = let at : k ≡ i = cc in (there (λ e. cc) ∙ ap Some at, at)
stops_at f k i Wraps there same = let at : k ≡ i = cc in (there (λ e. cc) ∙ ap Some at, at)
stops_at f k i (Overlap a) there same = let at : k ≡ i = cc in (there (λ e. cc) ∙ ap Some at, at)

-- where there is no error, the region was added
pub added_of : {P : Type 0} (o : Option ImageError) (r : Result (Unit {0}) ImageError) → ((e : ImageError) → r ≡ Err e → ⊥) → OnOk r P → Answers o r → P × (o ≡ None)
added_of o (Ok x) fine added told = (added, taken_there o x told)
added_of o (Err e) fine added told = absurd (fine e refl)
