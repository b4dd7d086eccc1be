-- Addresses at which the same is asked, and descriptions that have all that is asked.
use Rattle.std.proofs.Common.{◌≡◌, ℕ, ◌+◌, ◌<◌, ◌≤◌, true, cond, List, [], ◌∷◌, Result, Err, refl, sym, ap, subst, ◌∙◌, inl, inr, arith}
use Rattle.std.specs.Prelude.{◌⊎◌, ◌&&◌, ◌||◌, IsTrue, nat_le, nat_lt}
use Rattle.std.specs.List.{list_any}
use Rattle.std.proofs.lemmas.Bool.{le-leb, lt-leb, lt-ltb, le-ltb, leb-true, ltb-true, or_cases, and_parts}
use Rattle.unwind_definitions.specs.declared.error.Error.{Error as Fault}
use Rattle.unwind_definitions.specs.declared.error.Error.TheVariants.{NoUnwindInfoForAddress}
use Rattle.unwind_definitions.specs.Pointers.{Bases}
use Rattle.unwind_definitions.specs.Entries.{Fde}
use Rattle.unwind_definitions.specs.Row.{RowInstructions, row_at}
use Rattle.unwind_definitions.specs.Prologue.{SystemV}
use Rattle.unwind_definitions.specs.Function.{AreWithin, Function, IsFunction, Range, first_body, first_from, in_body, in_range, last_end}
use Rattle.unwind_definitions.specs.DescribedRows.{DescribesRows, HasRow}
use Rattle.eh_frame.specs.Walked.{due_row}
use Rattle.table_check.specs.Programs.{AreEdgesQuiet, Fits, IsDue, IsQuiet}

-- ---- between changes

module _ (pc next a : ℕ) (from : pc ≤ a) (below : a < next) where
  same_from : (x : ℕ) → (x ≤ pc) ⊎ (next ≤ x) → nat_le x a ≡ nat_le x pc
  same_from x (inl low) = le-leb x a (omega arith) ∙ sym (le-leb x pc low)
  same_from x (inr high) = lt-leb x a (omega arith) ∙ sym (lt-leb x pc (omega arith))

  same_to : (x : ℕ) → (x ≤ pc) ⊎ (next ≤ x) → nat_lt a x ≡ nat_lt pc x
  same_to x (inl low) = le-ltb a x (omega arith) ∙ sym (le-ltb pc x low)
  same_to x (inr high) = lt-ltb a x (omega arith) ∙ sym (lt-ltb pc x (omega arith))

  same_in : (rs : List Range) → AreEdgesQuiet pc next rs → list_any (in_range a) rs ≡ list_any (in_range pc) rs
  same_in [] quiet = refl
  same_in (r ∷ rs) quiet =
      let one : in_range a r ≡ in_range pc r = ap (λ b. b && nat_lt a r.to) (same_from r.from quiet.0.0) ∙ ap (λ b. nat_le r.from pc && b) (same_to r.to quiet.0.1) in
      ap (λ b. b || list_any (in_range a) rs) one ∙ ap (λ b. in_range pc r || b) (same_in rs quiet.1)

  before_first : (end : ℕ) (rs : List Range) → AreEdgesQuiet pc next rs → next ≤ end → a < first_from end rs → pc < first_from end rs
  before_first end [] quiet inside is = omega arith
  before_first end (r ∷ rs) quiet inside is = omega arith

  first_before : (end : ℕ) (rs : List Range) → AreEdgesQuiet pc next rs → next ≤ end → pc < first_from end rs → a < first_from end rs
  first_before end [] quiet inside is = omega arith
  first_before end (r ∷ rs) quiet inside is = before (quiet.0.0)
    where
      before : (r.from ≤ pc) ⊎ (next ≤ r.from) → a < r.from
      before (inl low) = absurd (omega arith)
      before (inr high) = omega arith

-- where a row fits that is due at an address, one that is due later fits, up to the next change
pub fits_on : (f : Function) (pc next a : ℕ) (due : Result RowInstructions Fault) → pc ≤ a → a < next → f.start ≤ pc → next ≤ f.end → IsQuiet f pc next → Fits f pc due → Fits f a due
fits_on f pc next a due from below after inside quiet fits = record {
  body = λ inner is. fits.body inner (subst IsTrue (same_in pc next a from below f.bodies quiet.edges) is);
  prologue = λ inner is. let ended = quiet.ends a from below in
      let there = fits.prologue inner (before_first pc next a from below f.end f.bodies quiet.edges inside is) in
      rw ended there;
  outermost = λ outer is. fits.outermost outer (subst IsTrue (same_in pc next a from below f.bodies quiet.edges) is);
}

-- ---- in all of a function

pub in_within : (a low high : ℕ) (rs : List Range) → AreWithin low high rs → list_any (in_range a) rs ≡ true → (low ≤ a) × (a < high)
in_within a low high [] within is = absurd cc
in_within a low high (r ∷ rs) within is = split (in_within a r.to high rs within.3) (or_cases (in_range a r) (list_any (in_range a) rs) is)
  where
    split : (list_any (in_range a) rs ≡ true → (r.to ≤ a) × (a < high)) → (in_range a r ≡ true) ⊎ (list_any (in_range a) rs ≡ true) → (low ≤ a) × (a < high)
    split rest (inl here) =
        let both = and_parts (nat_le r.from a) (nat_lt a r.to) here in
        let x = leb-true r.from a both.0 in let y = ltb-true a r.to both.1 in let u = within.0 in let v = within.2 in (omega arith, omega arith)
    split rest (inr later) = let both = rest later in let x = both.0 in let y = both.1 in let u = within.0 in let v = within.1 in (omega arith, omega arith)

first_within : (low high : ℕ) (rs : List Range) → low ≤ high → AreWithin low high rs → first_from high rs ≤ high
first_within low high [] le within = omega arith
first_within low high (r ∷ rs) le within = let x = within.1 in let y = within.2 in omega arith

module _ (bases : Bases) (f : Function) (fde : Fde) (start : fde.start ≡ f.start) (end : fde.start + fde.size ≡ f.end) where
  covered : (pc : ℕ) → f.start ≤ pc → pc < f.end → row_at bases fde pc ≡ due_row bases fde pc
  unfolding row_at
  covered pc low high = ap (λ b. cond b (due_row bases fde pc) (Err NoUnwindInfoForAddress)) (ap (λ b. b && nat_lt pc (fde.start + fde.size)) (le-leb fde.start pc (omega arith)) ∙ lt-ltb pc (fde.start + fde.size) (omega arith))

  has_due : (pc : ℕ) (P : RowInstructions → Type 0) → f.start ≤ pc → pc < f.end → IsDue (due_row bases fde pc) P → HasRow bases fde pc P
  has_due pc P low high is = (is.0, covered pc low high ∙ is.1, is.2)

  due_has : (pc : ℕ) (P : RowInstructions → Type 0) → f.start ≤ pc → pc < f.end → HasRow bases fde pc P → IsDue (due_row bases fde pc) P
  due_has pc P low high is = (is.0, sym (covered pc low high) ∙ is.1, is.2)

  module _ (is : IsFunction SystemV f) where
    body_inside : (pc : ℕ) → IsTrue (in_body f pc) → (f.start ≤ pc) × (pc < f.end)
    body_inside pc there = let w = in_within pc (f.start + last_end f.prologue) f.end f.bodies is.bodies there in let x = w.0 in (omega arith, w.1)

    first_inside : (pc : ℕ) → pc < first_body f → pc < f.end
    first_inside pc below = let w = first_le f.bodies is.bodies in omega arith
      where
        first_le : (rs : List Range) → AreWithin (f.start + last_end f.prologue) f.end rs → first_from f.end rs ≤ f.end
        first_le [] within = omega arith
        first_le (r ∷ rs) within = let x = within.1 in let y = within.2 in omega arith

    -- a description whose rows fit at all addresses of a function describes its rows
    pub all_fit : ((pc : ℕ) → f.start ≤ pc → pc < f.end → Fits f pc (due_row bases fde pc)) → DescribesRows bases f fde
    all_fit fits = record {
      bodies = λ inner pc there. let w = body_inside pc there in has_due pc _ w.0 w.1 ((fits pc w.0 w.1).body inner there);
      prologue = λ inner pc low below. let high = first_inside pc below in has_due pc _ low high ((fits pc low high).prologue inner below);
      outermost = λ outer pc there. let w = body_inside pc there in has_due pc _ w.0 w.1 ((fits pc w.0 w.1).outermost outer there);
    }

    -- the rows that describe a function fit at each of its addresses
    pub fit_all : DescribesRows bases f fde → (pc : ℕ) → f.start ≤ pc → pc < f.end → Fits f pc (due_row bases fde pc)
    fit_all rows pc low high = record {
      body = λ inner there. due_has pc _ low high (rows.bodies inner pc there);
      prologue = λ inner below. due_has pc _ low high (rows.prologue inner pc low below);
      outermost = λ outer there. due_has pc _ low high (rows.outermost outer pc there);
    }

-- ---- changes, one after another

pub sooner_than : (pc m n x : ℕ) → m ≤ n → (x ≤ pc) ⊎ (n ≤ x) → (x ≤ pc) ⊎ (m ≤ x)
sooner_than pc m n x le (inl low) = inl low
sooner_than pc m n x le (inr high) = inr (omega arith)

pub edges_sooner : (pc m n : ℕ) (rs : List Range) → m ≤ n → AreEdgesQuiet pc n rs → AreEdgesQuiet pc m rs
edges_sooner pc m n [] le quiet = tt
edges_sooner pc m n (r ∷ rs) le quiet = ((sooner_than pc m n r.from le quiet.0.0, sooner_than pc m n r.to le quiet.0.1), edges_sooner pc m n rs le quiet.1)
