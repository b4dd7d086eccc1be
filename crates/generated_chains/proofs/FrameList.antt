-- A generated frame table is its entries, one for each function after two common ones.
use Rattle.std.proofs.Common.{◌≡◌, ℕ, ◌+◌, ◌<◌, ◌≤◌, List, [], ◌∷◌, ◌++◌, map, length, drop, Some, Ok, refl, sym, ap, subst, ◌∙◌, arith, inl, inr, lit<}
use Rattle.std.specs.Int.{w32}
use Rattle.std.specs.List.{AllByRecursion, Contains, flat_map, filter}
use Rattle.std.proofs.lemmas.List.{drop-drop, drop_at}
use Rattle.std.proofs.lemmas.Bool.{ne_eqb, eq-eqb}
use Rattle.unwind_definitions.specs.Input.{number}
use Rattle.unwind_definitions.specs.Pointers.{Bases}
use Rattle.unwind_definitions.specs.Entries.{Fde, Entry, ACie, AFde, AreEntries, entry_at}
use Rattle.unwind_definitions.specs.Scan.{fdes_of}
use Rattle.unwind_definitions.specs.Function.{Function}
use Rattle.unwind_definitions.specs.FrameTable.{HasShortLength, has_range_of}
use Rattle.unwind_laws.proofs.Booleans.{here_or_later, none_in_nil}
use Rattle.generated_chains.specs.declared.outline.Outline.{Outline}
use Rattle.generated_chains.specs.Outlines.{AreNumbered}
use Rattle.generated_chains.specs.Code.{start_of, function_of}
use Rattle.generated_chains.specs.Tables.{frames_place, offset_of, description_body, description_bytes, frame_table}
use Rattle.generated_chains.proofs.Readers.{input, read_four}
use Rattle.generated_chains.proofs.Entries.{plain_cie, language_cie, fde_by, length-body, table, entry_read, plain_entry_read, language_entry_read, end_read}

abbrev pub described : List Outline → List Entry
described os = map (λ (o : Outline). AFde (fde_by o)) os

abbrev pub entries_of : List Outline → List Entry
entries_of os = ACie plain_cie ∷ ACie language_cie ∷ described os

pub fdes_are : (os : List Outline) → fdes_of (entries_of os) ≡ map fde_by os
fdes_are os = go os
  where
    go : (os : List Outline) → fdes_of (described os) ≡ map fde_by os
    go [] = refl
    go (o ∷ os) = ap (λ (fs : List Fde). fde_by o ∷ fs) (go os)

pub length-description : (o : Outline) → length (description_bytes o) ≡ 32
length-description o = let long = length-body o in omega arith

-- the bytes after an entry's
next_bytes : (whole : List ℕ) (o : Outline) (rest : List ℕ) (index : ℕ) → o.index ≡ index → drop (offset_of index) whole ≡ description_bytes o ++ rest → drop (offset_of (index + 1)) whole ≡ rest
next_bytes whole o rest index same here =
    let place : offset_of (index + 1) ≡ offset_of index + 32 = omega arith in
    rw place (sym (drop-drop 32 (offset_of index) whole) ∙ ap (drop 32) here ∙ drop_at (description_bytes o) rest 32 (length-description o))

module _ (bases : Bases) (all : List Outline) where
  abbrev pub bytes : List ℕ
  bytes = flat_map description_bytes all

  entries_from : (index : ℕ) (os : List Outline) → AreNumbered index os → index + length os ≤ 100000 → drop (offset_of index) (frame_table all) ≡ flat_map description_bytes os →
      AreEntries bases (table bytes) (offset_of index) (described os)
  entries_from index [] numbered few here = end_read bases bytes (offset_of index) here
  entries_from index (o ∷ os) numbered few here =
      let same : o.index ≡ index = numbered.0 in
      let here' : drop (offset_of o.index) (frame_table all) ≡ description_bytes o ++ flat_map description_bytes os = ap (λ (k : ℕ). drop (offset_of k) (frame_table all)) same ∙ here in
      let lt : o.index < 100000 = omega arith in
      let read = entry_read bases bytes o (flat_map description_bytes os) lt here' in
      let next : (offset_of o.index + 4) + 28 ≡ offset_of (index + 1) = omega arith in (
        offset_of (index + 1),
        ap (λ (k : ℕ). entry_at bases (table bytes) (offset_of k)) (sym same) ∙ read ∙ ap (λ (n : ℕ). Ok (Some (record { entry = AFde (fde_by o); next = n }))) next,
        entries_from (index + 1) os numbered.1 (omega arith) (next_bytes (frame_table all) o (flat_map description_bytes os) index same here),
      )

  pub entries_read : AreNumbered 0 all → length all ≤ 100000 → AreEntries bases (input frames_place 0 (frame_table all)) 0 (entries_of all)
  entries_read numbered few = (24, plain_entry_read bases bytes, (56, language_entry_read bases bytes, entries_from 0 all numbered (omega arith) refl))

  short_from : (index : ℕ) (os : List Outline) → AreNumbered index os → drop (offset_of index) (frame_table all) ≡ flat_map description_bytes os → AllByRecursion (HasShortLength (input frames_place 0 (frame_table all))) (described os)
  short_from index [] numbered here = tt
  short_from index (o ∷ os) numbered here =
      let here' : drop (offset_of o.index) (frame_table all) ≡ description_bytes o ++ flat_map description_bytes os = ap (λ (k : ℕ). drop (offset_of k) (frame_table all)) numbered.0 ∙ here in (
        (28, _, ap (λ (b : List ℕ). number w32 (input frames_place (0 + offset_of o.index) b)) here' ∙ read_four frames_place (0 + offset_of o.index) 28 0 0 0 (description_body o ++ flat_map description_bytes os), lit< tt),
        short_from (index + 1) os numbered.1 (next_bytes (frame_table all) o (flat_map description_bytes os) index numbered.0 here),
      )

  pub lengths_are_short : AreNumbered 0 all → AllByRecursion (HasShortLength (input frames_place 0 (frame_table all))) (entries_of all)
  lengths_are_short numbered = (
    (20, _, read_four frames_place 0 20 0 0 0 (drop 4 (frame_table all)), lit< tt),
    ((28, _, read_four frames_place 24 28 0 0 0 (drop 28 (frame_table all)), lit< tt), short_from 0 all numbered refl),
  )

-- ---- each function has one description

pub above : (index : ℕ) (os : List Outline) (o : Outline) → AreNumbered index os → Contains os o → index ≤ o.index
above index [] o numbered has = absurd (none_in_nil o has)
above index (p ∷ os) o numbered has = elim (here_or_later p os o has) [
  | inl same ↦ let i : p.index ≡ o.index = ap (λ (x : Outline). x.index) same in omega (arith, numbered.0)
  | inr more ↦ let le = above (index + 1) os o numbered.1 more in omega arith
]

-- no description of functions from an index on is that of one before them
none_later : (index : ℕ) (os : List Outline) (f : Function) → AreNumbered index os → f.start < start_of index → filter (has_range_of f) (map fde_by os) ≡ []
none_later index [] f numbered lt = refl
none_later index (o ∷ os) f numbered lt =
    rw (ne_eqb (start_of o.index) f.start (λ e. absurd (omega (arith, numbered.0)))) (none_later (index + 1) os f numbered.1 (omega arith))

pub one_description : (index : ℕ) (os : List Outline) (o : Outline) → AreNumbered index os → Contains os o → filter (has_range_of (function_of o)) (map fde_by os) ≡ fde_by o ∷ []
one_description index [] o numbered has = absurd (none_in_nil o has)
one_description index (p ∷ os) o numbered has = elim (here_or_later p os o has) [
  | inl same ↦
      let rest : filter (has_range_of (function_of p)) (map fde_by os) ≡ [] = none_later (index + 1) os (function_of p) numbered.1 (omega (arith, numbered.0)) in
      let here : filter (has_range_of (function_of p)) (map fde_by (p ∷ os)) ≡ fde_by p ∷ [] = rw (eq-eqb (start_of p.index) (start_of p.index) refl, eq-eqb (start_of p.index + 64) (start_of p.index + 64) refl, rest) refl in
      subst (λ (x : Outline). filter (has_range_of (function_of x)) (map fde_by (p ∷ os)) ≡ fde_by x ∷ []) same here
  | inr more ↦
      let le = above (index + 1) os o numbered.1 more in
      rw (ne_eqb (start_of p.index) (start_of o.index) (λ e. absurd (omega (arith, numbered.0)))) (one_description (index + 1) os o numbered.1 more)
]
