-- The last that passes a test, and the first of some entries, found step by step.
use Rattle.std.proofs.Common.{◌≡◌, ℕ, zero, suc, Bool, true, false, cond, List, [], ◌∷◌, take, drop, Option, Some, None, refl, ap, ◌∙◌}
use Rattle.std.specs.Prelude.{◌≢◌, slice_get}
use Rattle.std.proofs.lemmas.Bool.{ne_eqb}
use Rattle.std.specs.Option.{option_or}
use Rattle.fde_finders.specs.declared.phdr.DynamicEntry.{DynamicEntry}
use Rattle.fde_finders.specs.ProgramHeaders.{last_such, plt_got}

or_assoc : {A : Type 0} (x y z : Option A) → option_or (option_or x y) z ≡ option_or x (option_or y z)
or_assoc None y z = refl
or_assoc (Some a) y z = refl

or_none : {A : Type 0} (x : Option A) → x ≡ option_or x None
or_none None = refl
or_none (Some a) = refl

module _ {A : Type 0} (test : A → Bool) where
  abbrev one : A → Option A
  one x = cond (test x) (Some x) None

  last_of_more : (xs : List A) (i : ℕ) (x : A) → slice_get xs i ≡ Some x → last_such test (take (suc i) xs) ≡ option_or (one x) (last_such test (take i xs))
  last_of_more [] i x at = absurd cc
  last_of_more (y ∷ ys) zero x at = let same : y ≡ x = cc in ap one same ∙ or_none (one x)
  last_of_more (y ∷ ys) (suc i) x at = ap (λ (o : Option A). option_or o (one y)) (last_of_more ys i x at) ∙ or_assoc (one x) (last_such test (take i ys)) (one y)

  last_there : (n i : ℕ) (xs : List A) (x : A) → n ≡ suc i → slice_get xs i ≡ Some x → last_such test (take n xs) ≡ option_or (one x) (last_such test (take i xs))
  last_there n i xs x e at = ap (λ (k : ℕ). last_such test (take k xs)) e ∙ last_of_more xs i x at

  -- one that passes is the last one of those up to it, and one that doesn't is none of them
  pub last_here : (n i : ℕ) (xs : List A) (x : A) → n ≡ suc i → slice_get xs i ≡ Some x → test x ≡ true → last_such test (take n xs) ≡ Some x
  last_here n i xs x e at is = last_there n i xs x e at ∙ rw is refl

  pub last_below : (n i : ℕ) (xs : List A) (x : A) → n ≡ suc i → slice_get xs i ≡ Some x → test x ≡ false → last_such test (take n xs) ≡ last_such test (take i xs)
  last_below n i xs x e at is = last_there n i xs x e at ∙ rw is refl

-- ---- entries of a dynamic section
entry_there : (ds : List DynamicEntry) (i : ℕ) (d : DynamicEntry) → slice_get ds i ≡ Some d → drop i ds ≡ d ∷ drop (suc i) ds
entry_there [] i d at = absurd cc
entry_there (x ∷ xs) zero d at = let same : x ≡ d = cc in ap (λ (y : DynamicEntry). y ∷ xs) same
entry_there (x ∷ xs) (suc i) d at = entry_there xs i d at

no_entry_there : (ds : List DynamicEntry) (i : ℕ) → slice_get ds i ≡ None → drop i ds ≡ []
no_entry_there [] zero at = refl
no_entry_there [] (suc i) at = refl
no_entry_there (x ∷ xs) zero at = absurd cc
no_entry_there (x ∷ xs) (suc i) at = no_entry_there xs i at

pub got_ends : (ds : List DynamicEntry) (i : ℕ) → slice_get ds i ≡ None → plt_got (drop i ds) ≡ None
got_ends ds i at = ap plt_got (no_entry_there ds i at)

pub got_here : (ds : List DynamicEntry) (i : ℕ) (d : DynamicEntry) → slice_get ds i ≡ Some d → plt_got (drop i ds) ≡ plt_got (d ∷ drop (suc i) ds)
got_here ds i d at = ap plt_got (entry_there ds i d at)

pub got_null : (d : DynamicEntry) (ds : List DynamicEntry) → d.tag ≡ 0 → plt_got (d ∷ ds) ≡ None
got_null d ds e = rw e refl

pub got_plt : (d : DynamicEntry) (ds : List DynamicEntry) → d.tag ≡ 3 → plt_got (d ∷ ds) ≡ Some d.value
got_plt d ds e = rw e refl

pub got_other : (d : DynamicEntry) (ds : List DynamicEntry) → d.tag ≢ 0 → d.tag ≢ 3 → plt_got (d ∷ ds) ≡ plt_got ds
got_other d ds no_end no_got = rw (ne_eqb d.tag 0 no_end, ne_eqb d.tag 3 no_got) refl
