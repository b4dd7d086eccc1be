-- Descriptions that are noted for claims.
use Rattle.std.proofs.Common.{◌≡◌, ℕ, zero, suc, ◌+◌, ◌<◌, ◌≤◌, true, false, List, [], ◌∷◌, ◌++◌, length, map, get_or, Option, Some, None, refl, sym, ap, subst, ◌∙◌, inl, inr, arith}
use Rattle.std.specs.Prelude.{◌⊎◌, is_some, slice_set}
use Rattle.std.specs.Bool.{Decides}
use Rattle.std.specs.List.{AllByRecursion, Contains}
use Rattle.std.proofs.lemmas.Bool.{cases_order}
use Rattle.unwind_laws.proofs.Booleans.{first, here_or_later, later, none_in_nil}
use Rattle.memory_image.specs.Image.{Span}
use Rattle.unwind_definitions.specs.Pointers.{Bases}
use Rattle.unwind_definitions.specs.Entries.{Fde}
use Rattle.unwind_definitions.specs.Function.{Function}
use Rattle.unwind_definitions.specs.FrameTable.{DescribesCode, has_range_of}
use Rattle.unwind_definitions.specs.LanguageTable.{LeadsToLanguage}
use Rattle.table_check.specs.declared.claims.Claim.{Claim}
use Rattle.table_check.specs.declared.claims.Described.{Described}
use Rattle.table_check.specs.ClaimViews.{function_of}
use Rattle.table_check.specs.Ranges.{AreInOrder}
use Rattle.table_check.proofs.InOrder.{other_range, same_default}
use Rattle.table_check.specs.Marks.{AreMarked, IsMarked, IsUnmarked, NotesRightly}
use Rattle.table_check.specs.Scanned.{IsDescribedAmong}

-- one more at the end
contains_more : {A : Type 0} (xs : List A) (x y : A) → Contains xs y → Contains (xs ++ x ∷ []) y
contains_more [] x y has = absurd (none_in_nil y has)
contains_more (z ∷ xs) x y has = elim (here_or_later z xs y has) [
  | inl same ↦ subst (Contains (z ∷ (xs ++ x ∷ []))) same (first z (xs ++ x ∷ []))
  | inr rest ↦ later z (xs ++ x ∷ []) y (contains_more xs x y rest)
]

contains_last : {A : Type 0} (xs : List A) (x : A) → Contains (xs ++ x ∷ []) x
contains_last [] x = first x []
contains_last (z ∷ xs) x = later z (xs ++ x ∷ []) x (contains_last xs x)

contains_cut : {A : Type 0} (xs : List A) (x y : A) → Contains (xs ++ x ∷ []) y → (x ≡ y) ⊎ Contains xs y
contains_cut [] x y has = here_or_later x [] y has
contains_cut (z ∷ xs) x y has = elim (here_or_later z (xs ++ x ∷ []) y has) [
  | inl same ↦ inr (subst (Contains (z ∷ xs)) same (first z xs))
  | inr rest ↦ elim (contains_cut xs x y rest) [
    | inl same ↦ inl same
    | inr more ↦ inr (later z xs y more)
  ]
]

-- ---- one more description

module _ (fdes : List Fde) (fde : Fde) where
  fewer : (f : Function) → has_range_of f fde ≡ false → IsDescribedAmong (fdes ++ fde ∷ []) f → IsDescribedAmong fdes f
  fewer f other h = go (contains_cut fdes fde h.0 h.1)
    where
      go : (fde ≡ h.0) ⊎ Contains fdes h.0 → IsDescribedAmong fdes f
      go (inl same) = let range : has_range_of f fde ≡ true = ap (has_range_of f) same ∙ h.2 in absurd cc
      go (inr has) = (h.0, has, h.2)

  module _ (image : List Span) (bases : Bases) where
    -- it isn't that of a claim
    marked_on : (f : Function) (noted : Option Described) → has_range_of f fde ≡ false → NotesRightly image bases fdes f noted → NotesRightly image bases (fdes ++ fde ∷ []) f noted
    marked_on f None other m = λ h. m (fewer f other h)
    marked_on f (Some d) other m = record { fde = m.fde; among = contains_more fdes fde m.fde m.among; range = m.range; code = m.code; language = m.language }

    pub all_marked_on : (cs : List Claim) → ((k : ℕ) (d : Claim) → k < length cs → has_range_of (function_of (get_or cs k d)) fde ≡ false) → AreMarked image bases fdes cs → AreMarked image bases (fdes ++ fde ∷ []) cs
    all_marked_on [] others marked = tt
    all_marked_on (c ∷ cs) others marked = (marked_on (function_of c) c.description (others 0 c (omega arith)) marked.0, all_marked_on cs (λ k d lt. others (suc k) d (omega arith)) marked.1)

    -- or it is noted for one
    noted_at : (cs : List Claim) (i : ℕ) (c : Claim) → IsMarked image bases (fdes ++ fde ∷ []) c → ((k : ℕ) (d : Claim) → k < length cs → (k ≡ i → ⊥) → has_range_of (function_of (get_or cs k d)) fde ≡ false) →
        AreMarked image bases fdes cs → AreMarked image bases (fdes ++ fde ∷ []) (slice_set cs i c)
    noted_at [] i c here others marked = tt
    noted_at (x ∷ cs) zero c here others marked = (here, all_marked_on cs (λ k d lt. others (suc k) d (omega arith) (λ e. omega (arith, e))) marked.1)
    noted_at (x ∷ cs) (suc i) c here others marked = (
      marked_on (function_of x) x.description (others 0 x (omega arith) (λ e. omega (arith, e))) marked.0,
      noted_at cs i c here (λ k d lt not. others (suc k) d (omega arith) (λ e. not (omega (arith, e)))) marked.1,
    )

    -- a claim for which it is noted
    notes_it : (c : Claim) (d : Described) → c.description ≡ Some d → has_range_of (function_of c) fde ≡ true → Decides d.has_code (DescribesCode image bases (function_of c) fde) → Decides d.has_language (LeadsToLanguage image (function_of c) fde.language) →
        IsMarked image bases (fdes ++ fde ∷ []) c
    notes_it c d is range code language = subst (NotesRightly image bases (fdes ++ fde ∷ []) (function_of c)) (sym is)
        (record { fde = fde; among = contains_last fdes fde; range = range; code = code; language = language })

-- at first none is noted
pub unmarked : (image : List Span) (bases : Bases) (cs : List Claim) → AllByRecursion IsUnmarked cs → AreMarked image bases [] cs
unmarked image bases [] none = tt
unmarked image bases (c ∷ cs) none = (subst (NotesRightly image bases [] (function_of c)) (sym none.0) (λ h. none_in_nil h.0 h.1), unmarked image bases cs none.1)

-- ---- a claim is written back

pub set_same : (cs : List Claim) (i : ℕ) (c d : Claim) → i < length cs → function_of c ≡ function_of (get_or cs i d) → map function_of (slice_set cs i c) ≡ map function_of cs
set_same [] i c d below is = refl
set_same (x ∷ cs) zero c d below is = ap (λ f. f ∷ map function_of cs) is
set_same (x ∷ cs) (suc i) c d below is = ap (λ l. function_of x ∷ l) (set_same cs i c d (omega arith) is)

abbrev pub with_description : Claim → Option Described → Claim
with_description c o = record c { description = o }

module _ (cs : List Claim) (order : AreInOrder (map function_of cs)) (fde : Fde) (i : ℕ) (early : (k : ℕ) (d : Claim) → k < i → (get_or cs k d).end ≤ fde.start) (late : (k : ℕ) (d : Claim) → i ≤ k → k < length cs → fde.start < (get_or cs k d).end) (image : List Span) (bases : Bases) (fdes : List Fde) where
  -- it is noted for the claim that has its range
  pub notes : (d : Claim) (says : Described) → has_range_of (function_of (get_or cs i d)) fde ≡ true → Decides says.has_code (DescribesCode image bases (function_of (get_or cs i d)) fde) → Decides says.has_language (LeadsToLanguage image (function_of (get_or cs i d)) fde.language) →
      AreMarked image bases fdes cs → AreMarked image bases (fdes ++ fde ∷ []) (slice_set cs i (with_description (get_or cs i d) (Some says)))
  notes d says range code language marked =
      noted_at fdes fde image bases cs i (with_description (get_or cs i d) (Some says)) (notes_it fdes fde image bases (with_description (get_or cs i d) (Some says)) says refl range code language) (other_range cs order fde i early late) marked

  -- or there is none
  pub notes_none : (length cs ≤ i) ⊎ ((d : Claim) × (has_range_of (function_of (get_or cs i d)) fde ≡ false)) → AreMarked image bases fdes cs → AreMarked image bases (fdes ++ fde ∷ []) cs
  notes_none (inl over) marked = all_marked_on fdes fde image bases cs (λ k d lt. other_range cs order fde i early late k d lt (λ e. omega (arith, e, lt, over))) marked
  notes_none (inr other) marked = all_marked_on fdes fde image bases cs (λ k d lt. elim (cases_order k i) [
    | inl same ↦ subst (λ (c : Claim). has_range_of (function_of c) fde ≡ false) (sym (ap (λ n. get_or cs n d) same ∙ same_default cs i d other.0 (omega (arith, same, lt)))) other.1
    | inr (inl lower) ↦ other_range cs order fde i early late k d lt (λ e. omega (arith, e, lower))
    | inr (inr higher) ↦ other_range cs order fde i early late k d lt (λ e. omega (arith, e, higher))
  ]) marked

-- ---- all claims

pub marked_at : (image : List Span) (bases : Bases) (fdes : List Fde) (cs : List Claim) (i : ℕ) (d : Claim) → i < length cs → AreMarked image bases fdes cs → IsMarked image bases fdes (get_or cs i d)
marked_at image bases fdes [] i d lt marked = absurd (omega arith)
marked_at image bases fdes (c ∷ cs) zero d lt marked = marked.0
marked_at image bases fdes (c ∷ cs) (suc i) d lt marked = marked_at image bases fdes cs i d (omega arith) marked.1

pub all_unmarked : (cs : List Claim) → ((k : ℕ) (d : Claim) → k < length cs → IsUnmarked (get_or cs k d)) → AllByRecursion IsUnmarked cs
all_unmarked [] each = tt
all_unmarked (c ∷ cs) each = (each 0 c (omega arith), all_unmarked cs (λ k d lt. each (suc k) d (omega arith)))

-- one more isn't noted
pub unmarked_more : (cs : List Claim) (i : ℕ) (c : Claim) → IsUnmarked c → i < length cs → ((k : ℕ) (d : Claim) → k < i → IsUnmarked (get_or cs k d)) → (k : ℕ) (d : Claim) → k < i + 1 → IsUnmarked (get_or (slice_set cs i c) k d)
unmarked_more [] i c is lt each k d below = absurd (omega arith)
unmarked_more (x ∷ cs) zero c is lt each zero d below = is
unmarked_more (x ∷ cs) zero c is lt each (suc k) d below = absurd (omega arith)
unmarked_more (x ∷ cs) (suc i) c is lt each zero d below = each 0 d (omega arith)
unmarked_more (x ∷ cs) (suc i) c is lt each (suc k) d below = unmarked_more cs i c is (omega arith) (λ j e low. each (suc j) e (omega arith)) k d (omega arith)

-- a claim for which one is noted, and one for which none is
pub is_noted : (image : List Span) (bases : Bases) (fdes : List Fde) (c : Claim) → is_some c.description ≡ true → IsMarked image bases fdes c → IsDescribedAmong fdes (function_of c)
is_noted image bases fdes c some m = go c.description some m
  where
    go : (o : Option Described) → is_some o ≡ true → NotesRightly image bases fdes (function_of c) o → IsDescribedAmong fdes (function_of c)
    go None some m = absurd cc
    go (Some d) some m = (m.fde, m.among, m.range)

pub none_is : (image : List Span) (bases : Bases) (fdes : List Fde) (c : Claim) → is_some c.description ≡ false → IsMarked image bases fdes c → IsDescribedAmong fdes (function_of c) → ⊥
none_is image bases fdes c none m = go c.description none m
  where
    go : (o : Option Described) → is_some o ≡ false → NotesRightly image bases fdes (function_of c) o → IsDescribedAmong fdes (function_of c) → ⊥
    go None none m = m
    go (Some d) none m = absurd cc
