-- A generated frame table describes the functions of its chain.
use Rattle.std.proofs.Common.{◌≡◌, ℕ, zero, suc, ◌+◌, ◌<◌, ◌≤◌, Bool, true, false, ◌||◌, List, [], ◌∷◌, map, length, refl, sym, ap, subst, ◌∙◌, arith, inl, inr, lit<, lit≤, get_or}
use Rattle.std.specs.Prelude.{IsFalse}
use Rattle.std.specs.List.{AllByRecursion, AllPairs, Contains, list_any, filter}
use Rattle.std.proofs.lemmas.List.{get_or_default}
use Rattle.std.proofs.lemmas.Bool.{eq-eqb}
use Rattle.memory_image.specs.Image.{Span}
use Rattle.unwind_definitions.specs.Pointers.{Bases}
use Rattle.unwind_definitions.specs.Entries.{Fde}
use Rattle.unwind_definitions.specs.Scan.{fdes_of}
use Rattle.unwind_definitions.specs.Function.{Function}
use Rattle.unwind_definitions.specs.LanguageTable.{input_at}
use Rattle.unwind_definitions.specs.FrameTable.{IsEmittedCie, DescribesFunction, HasDescription, DescribesFrames, MeetsNot, has_range_of}
use Rattle.unwind_definitions.specs.Module.{DescriptionsApart}
use Rattle.unwind_laws.proofs.Booleans.{here_or_later, none_in_nil, contains_all}
use Rattle.unwind_laws.proofs.ByHeader.{mapped_from}
use Rattle.generated_chains.specs.declared.outline.Handling.{Handling}
use Rattle.generated_chains.specs.declared.outline.Handling.TheVariants.{PassesOn, CleansUp, Catches}
use Rattle.generated_chains.specs.declared.outline.Outline.{Outline}
use Rattle.generated_chains.specs.Outlines.{AreNumbered}
use Rattle.generated_chains.specs.Code.{start_of, function_of, functions_of}
use Rattle.generated_chains.specs.Tables.{frames_place, offset_of}
use Rattle.generated_chains.specs.Memory.{HoldsTables}
use Rattle.generated_chains.proofs.Readers.{input}
use Rattle.generated_chains.proofs.Entries.{cie_by, fde_by}
use Rattle.generated_chains.proofs.FrameList.{entries_of, fdes_are, entries_read, lengths_are_short, one_description, above}
use Rattle.generated_chains.proofs.Rows.{rows_described}
use Rattle.generated_chains.proofs.Languages.{leads_to_language}

-- the indices of functions lie below how many there are
pub below : (index : ℕ) (os : List Outline) (o : Outline) → AreNumbered index os → Contains os o → o.index < index + length os
below index [] o numbered has = absurd (none_in_nil o has)
below index (p ∷ os) o numbered has = elim (here_or_later p os o has) [
  | inl same ↦ let i : p.index ≡ o.index = ap (λ (x : Outline). x.index) same in omega (arith, numbered.0)
  | inr more ↦ let lt = below (index + 1) os o numbered.1 more in omega arith
]

is_emitted : (image : List Span) (handling : Handling) → IsEmittedCie image (cie_by handling)
is_emitted image PassesOn = record { version = refl; code_factor = refl; data_factor = refl; return_column = refl; augmentation = inl refl; address = refl; language = inl refl; personality = tt; program = (2, refl) }
is_emitted image CleansUp = record { version = refl; code_factor = refl; data_factor = refl; return_column = refl; augmentation = inr (inr refl); address = refl; language = inr refl; personality = inl refl; program = (2, refl) }
is_emitted image Catches = record { version = refl; code_factor = refl; data_factor = refl; return_column = refl; augmentation = inr (inr refl); address = refl; language = inr refl; personality = inl refl; program = (2, refl) }

small_cie : (handling : Handling) → (cie_by handling).offset ≤ 24
small_cie PassesOn = lit≤ tt
small_cie CleansUp = lit≤ tt
small_cie Catches = lit≤ tt

-- each description in the table is of a function
has_function : (os : List Outline) (fde : Fde) → Contains (map fde_by os) fde → list_any (λ f. has_range_of f fde) (functions_of os) ≡ true
has_function [] fde has = absurd (none_in_nil fde has)
has_function (o ∷ os) fde has = elim (here_or_later (fde_by o) (map fde_by os) fde has) [
  | inl same ↦
      let here : list_any (λ f. has_range_of f (fde_by o)) (functions_of (o ∷ os)) ≡ true = rw (eq-eqb (start_of o.index) (start_of o.index) refl, eq-eqb (start_of o.index + 64) (start_of o.index + 64) refl) refl in
      subst (λ (x : Fde). list_any (λ f. has_range_of f x) (functions_of (o ∷ os)) ≡ true) same here
  | inr more ↦ or_later (has_range_of (function_of o) fde) (list_any (λ f. has_range_of f fde) (functions_of os)) (has_function os fde more)
]
  where
    or_later : (a b : Bool) → b ≡ true → (a || b) ≡ true
    or_later true b e = refl
    or_later false b e = e

module _ (image : List Span) (bases : Bases) (os : List Outline) (holds : HoldsTables image os) (numbered : AreNumbered 0 os) (few : length os ≤ 100000) where
  describes_function : (o : Outline) → Contains os o → DescribesFunction image bases (function_of o) (fde_by o)
  describes_function o has =
      let lt = below 0 os o numbered has in
      record {
        code = record { cie = is_emitted image o.handling; earlier = omega (arith, small_cie o.handling); start = refl; end = refl; rows = rows_described bases o.kind o.handling (offset_of o.index) (start_of o.index) (omega arith) };
        language = leads_to_language image os holds o.kind o.handling (start_of o.index);
      }

  has_description : (f : Function) → Contains (functions_of os) f → HasDescription image bases (fdes_of (entries_of os)) f
  has_description f has =
      let from = mapped_from function_of os f has in
      let o : Outline = from.0 in
      let found : HasDescription image bases (fdes_of (entries_of os)) (function_of o) =
      record { fde = fde_by o; one = ap (filter (has_range_of (function_of o))) (fdes_are os) ∙ one_description 0 os o numbered from.1; describes = describes_function o from.1 } in
      subst (HasDescription image bases (fdes_of (entries_of os))) (sym from.2) found

  no_foreign : (fde : Fde) → Contains (fdes_of (entries_of os)) fde → IsFalse (list_any (λ f. has_range_of f fde) (functions_of os)) → AllByRecursion (MeetsNot fde) (functions_of os)
  no_foreign fde has none =
      let has' : Contains (map fde_by os) fde = subst (λ (fs : List Fde). Contains fs fde) (fdes_are os) has in
      let bad = has_function os fde has' in absurd cc

  pub frames_described : DescribesFrames image bases (input_at image frames_place) (entries_of os) (functions_of os)
  frames_described =
      subst (λ (bytes : List ℕ). DescribesFrames image bases (input frames_place 0 bytes) (entries_of os) (functions_of os)) (sym holds.frames) (record {
        reads = entries_read bases os numbered few;
        lengths = lengths_are_short bases os numbered;
        each = contains_all (HasDescription image bases (fdes_of (entries_of os))) (functions_of os) has_description;
        foreign = no_foreign;
      })

-- ---- descriptions share no address

pub pairs_cons : {A : Type 0} (R : A → A → Type 0) (x : A) (xs : List A) → ((y : A) → Contains xs y → R x y) → AllPairs R xs → AllPairs R (x ∷ xs)
pairs_cons R x xs head tail i zero d lt less = absurd (omega arith)
pairs_cons R x xs head tail zero (suc j) d lt less = head (get_or xs j d) (j, omega arith, get_or_default xs j (get_or xs j d) d (omega arith))
pairs_cons R x xs head tail (suc i) (suc j) d lt less = tail i j d (omega arith) (omega arith)

pairs_nil : {A : Type 0} (R : A → A → Type 0) → AllPairs R []
pairs_nil R i j d lt less = absurd (omega arith)

apart_from : (index : ℕ) (os : List Outline) → AreNumbered index os → AllPairs DescriptionsApart (map fde_by os)
apart_from index [] numbered = pairs_nil DescriptionsApart
apart_from index (o ∷ os) numbered = pairs_cons DescriptionsApart (fde_by o) (map fde_by os) (λ fde has. later fde (mapped_from fde_by os fde has)) (apart_from (index + 1) os numbered.1)
  where
    later : (fde : Fde) → (p : Outline) × Contains os p × (fde ≡ fde_by p) → DescriptionsApart (fde_by o) fde
    later fde (p, has, same) =
        let le = above (index + 1) os p numbered.1 has in
        subst (DescriptionsApart (fde_by o)) (sym same) (inl (omega (arith, numbered.0)))

pub descriptions_apart : (os : List Outline) → AreNumbered 0 os → AllPairs DescriptionsApart (fdes_of (entries_of os))
descriptions_apart os numbered = subst (λ (fs : List Fde). AllPairs DescriptionsApart fs) (sym (fdes_are os)) (apart_from 0 os numbered)

all_sized : (os : List Outline) → AllByRecursion (λ (fde : Fde). 0 < fde.size) (map fde_by os)
all_sized [] = tt
all_sized (o ∷ os) = (lit< tt, all_sized os)

pub descriptions_sized : (os : List Outline) → AllByRecursion (λ (fde : Fde). 0 < fde.size) (fdes_of (entries_of os))
descriptions_sized os = subst (λ (fs : List Fde). AllByRecursion (λ (fde : Fde). 0 < fde.size) fs) (sym (fdes_are os)) (all_sized os)
