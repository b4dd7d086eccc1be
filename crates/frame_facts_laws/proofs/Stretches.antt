-- One row for each stretch between the locations of a program says what the rows at all addresses say.
use Rattle.std.proofs.Common.{◌≡◌, ℕ, ◌+◌, ◌^◌, ◌<◌, ◌≤◌, Bool, true, false, cond, ltb, leb, ◌&&◌, List, [], ◌∷◌, refl, sym, ap, subst, ◌∙◌, arith, inl, inr}
use Rattle.std.specs.Prelude.{◌⊎◌, ◌↔◌, IsTrue}
use Rattle.std.specs.List.{Contains, AllByRecursion}
use Rattle.std.proofs.lemmas.Bool.{leb-true, leb-false, ltb-true, le-ltb, lt-ltb, le-leb}
use Rattle.memory_image.specs.Image.{Span}
use Rattle.unwind_definitions.specs.Pointers.{Bases}
use Rattle.unwind_definitions.specs.Instructions.{Instruction, Nop, Remember, Restore, Advance, SetLocation, Write, Reset, Cfa, CfaColumn, CfaOffset, CfaExpression, Arguments, Program, program}
use Rattle.unwind_definitions.specs.Entries.{Fde, coding_of}
use Rattle.unwind_definitions.specs.Row.{up_to, row_of, row_at}
use Rattle.unwind_definitions.specs.Scan.{fdes_of}
use Rattle.unwind_definitions.specs.Function.{Range, in_range}
use Rattle.unwind_definitions.specs.DescribedRows.{HasRow}
use Rattle.unwind_definitions.specs.Module.{Module, bases_of}
use Rattle.unwind_laws.proofs.Booleans.{both_true, all_contains, contains_all, later, first}
use Rattle.unwind_laws.proofs.Found.{covers_is}
use Rattle.frame_facts.specs.FactRows.{SaysFacts}
use Rattle.frame_facts.specs.FactTables.{HasTables, SaysFactsAt}
use Rattle.frame_facts.specs.Claims.{Claim, SaysClaim, IsClaimSaid, SaysClaims, locations, locations_of, SaysAtInside, SaysInStretches}

-- none of these locations lies above one address and at or below another
abbrev LieApart : ℕ → ℕ → List ℕ → Type 0
LieApart low pc ns = AllByRecursion (λ n. (n ≤ low) ⊎ (pc < n)) ns

module _ (low pc : ℕ) (from : low ≤ pc) where
  one : (to : ℕ) (i : Instruction) (stops : Bool) (xs ys : List Instruction) → (to ≤ low) ⊎ (pc < to) → xs ≡ ys → cond (ltb pc to && stops) [] (i ∷ xs) ≡ cond (ltb low to && stops) [] (i ∷ ys)
  one to i stops xs ys (inl le) e = rw (le-ltb pc to (omega arith), le-ltb low to le) (ap (λ is. i ∷ is) e)
  one to i stops xs ys (inr lt) e = rw (lt-ltb pc to lt, lt-ltb low to (omega arith)) (ap (λ is. cond stops [] (i ∷ is)) e)

  -- then the same instructions are reached
  same_reached : (at : ℕ) (is : List Instruction) → LieApart low pc (locations at is) → up_to at pc is ≡ up_to at low is
  same_reached at [] apart = refl
  same_reached at (Advance n ∷ is) apart = one (at + n) (Advance n) (ltb (at + n) (2 ^ 64)) (up_to (at + n) pc is) (up_to (at + n) low is) apart.0 (same_reached (at + n) is apart.1)
  same_reached at (SetLocation a ∷ is) apart = one a (SetLocation a) (leb at a) (up_to a pc is) (up_to a low is) apart.0 (same_reached a is apart.1)
  same_reached at (Nop ∷ is) apart = ap (λ x. Nop ∷ x) (same_reached at is apart)
  same_reached at (Remember ∷ is) apart = ap (λ x. Remember ∷ x) (same_reached at is apart)
  same_reached at (Restore ∷ is) apart = ap (λ x. Restore ∷ x) (same_reached at is apart)
  same_reached at (Write c r ∷ is) apart = ap (λ x. Write c r ∷ x) (same_reached at is apart)
  same_reached at (Reset c ∷ is) apart = ap (λ x. Reset c ∷ x) (same_reached at is apart)
  same_reached at (Cfa c n ∷ is) apart = ap (λ x. Cfa c n ∷ x) (same_reached at is apart)
  same_reached at (CfaColumn c ∷ is) apart = ap (λ x. CfaColumn c ∷ x) (same_reached at is apart)
  same_reached at (CfaOffset n ∷ is) apart = ap (λ x. CfaOffset n ∷ x) (same_reached at is apart)
  same_reached at (CfaExpression b ∷ is) apart = ap (λ x. CfaExpression b ∷ x) (same_reached at is apart)
  same_reached at (Arguments n ∷ is) apart = ap (λ x. Arguments n ∷ x) (same_reached at is apart)

-- the start of an address's stretch: the highest location at or below it, or a first address
record IsStretch (first_one pc : ℕ) (ns : List ℕ) (q : ℕ) : Type 0 where
  pub above : first_one ≤ q
  pub below : q ≤ pc
  pub one_of : (q ≡ first_one) ⊎ (Contains ns q × (first_one < q))
  pub apart : LieApart q pc ns

raised : (q n pc : ℕ) (ns : List ℕ) → q ≤ n → LieApart q pc ns → LieApart n pc ns
raised q n pc [] le apart = tt
raised q n pc (m ∷ ns) le apart = (elim apart.0 [ inl low ↦ inl (omega arith) | inr high ↦ inr high ], raised q n pc ns le apart.1)

stretch : (first_one pc : ℕ) (ns : List ℕ) → first_one ≤ pc → (q : ℕ) × IsStretch first_one pc ns q
stretch first_one pc [] le = (first_one, record { above = omega arith; below = le; one_of = inl refl; apart = tt })
stretch first_one pc (n ∷ ns) le = let more = stretch first_one pc ns le in go more.0 more.1 (leb n more.0) (leb n pc) refl refl
  where
    wider : (q : ℕ) → (q ≡ first_one) ⊎ (Contains ns q × (first_one < q)) → (q ≡ first_one) ⊎ (Contains (n ∷ ns) q × (first_one < q))
    wider q (inl same) = inl same
    wider q (inr has) = inr (later n ns q has.0, has.1)

    go : (q : ℕ) → IsStretch first_one pc ns q → (b d : Bool) → leb n q ≡ b → leb n pc ≡ d → (q : ℕ) × IsStretch first_one pc (n ∷ ns) q
    go q is true d low high = let le' = leb-true n q low in (q, record { above = is.above; below = is.below; one_of = wider q is.one_of; apart = (inl le', is.apart) })
    go q is false true low high =
        let le' = leb-true n pc high in
        let over : q < n = leb-false n q low in
        let above = is.above in
        (n, record { above = omega arith; below = le'; one_of = inr (first n ns, omega arith); apart = (inl (omega arith), raised q n pc ns (omega arith) is.apart) })
    go q is false false low high = (q, record { above = is.above; below = is.below; one_of = wider q is.one_of; apart = (inr (leb-false n pc high), is.apart) })

module _ (bases : Bases) (fde : Fde) where
  abbrev own : Program
  own = program (coding_of bases fde.cie) fde.program

  abbrev common : Program
  common = program (coding_of bases fde.cie) fde.cie.program

  -- a description has the same row throughout a stretch
  same_row : (low pc : ℕ) → low ≤ pc → fde.start ≤ low → pc < fde.start + fde.size → LieApart low pc (locations_of bases fde) → row_at bases fde pc ≡ row_at bases fde low
  unfolding row_at
  same_row low pc from inside within apart =
      rw (covers_is fde pc (omega arith) within, covers_is fde low inside (omega arith))
      (ap (row_of fde.start common own) (same_reached low pc from fde.start own.instructions apart))

  in_range_is : (r : Range) (pc : ℕ) → r.from ≤ pc → pc < r.to → in_range pc r ≡ true
  in_range_is r pc from to = rw (le-leb r.from pc from, lt-ltb pc r.to to) refl

  range_holds : (r : Range) (pc : ℕ) → IsTrue (in_range pc r) → (r.from ≤ pc) × (pc < r.to)
  range_holds r pc h = let both = both_true (leb r.from pc) (ltb pc r.to) h in (leb-true r.from pc both.0, ltb-true pc r.to both.1)

  to_stretches : (c : Claim) → c.range.from < c.range.to → SaysClaim bases fde c → SaysInStretches bases fde c
  to_stretches c some says = record {
    from = says.from;
    to = says.to;
    unmarked = says.unmarked;
    first = says.each c.range.from (in_range_is c.range c.range.from (omega arith) some);
    later = contains_all (SaysAtInside bases fde c) (locations_of bases fde) (λ n has above below. says.each n (in_range_is c.range n (omega arith) below));
  }

  from_stretches : (c : Claim) → SaysInStretches bases fde c → SaysClaim bases fde c
  from_stretches c says = record {
    from = says.from;
    to = says.to;
    unmarked = says.unmarked;
    each = λ pc h. let lies = range_holds c.range pc h in at pc lies.0 lies.1 (stretch c.range.from pc (locations_of bases fde) lies.0);
  }
    where
      at : (pc : ℕ) → c.range.from ≤ pc → pc < c.range.to → (q : ℕ) × IsStretch c.range.from pc (locations_of bases fde) q → HasRow bases fde pc (SaysFacts c.facts)
      at pc from below (q, is) =
          let start = says.from in
          let end = says.to in
          let above = is.above in
          let under = is.below in
          let same = same_row q pc under (omega arith) (omega arith) is.apart in
          let row = at_start q (omega arith) is.one_of in
          (row.0, same ∙ row.1, row.2)
        where
          at_start : (q : ℕ) → q < c.range.to → (q ≡ c.range.from) ⊎ (Contains (locations_of bases fde) q × (c.range.from < q)) → HasRow bases fde q (SaysFacts c.facts)
          at_start q lt (inl first) = subst (λ (a : ℕ). HasRow bases fde a (SaysFacts c.facts)) (sym first) says.first
          at_start q lt (inr later) = all_contains (SaysAtInside bases fde c) (locations_of bases fde) q says.later later.0 later.1 lt

  -- a claim is said at each address exactly where it is said by one row for each stretch
  pub said_by_stretches : (c : Claim) → c.range.from < c.range.to → SaysClaim bases fde c ↔ SaysInStretches bases fde c
  said_by_stretches c some = (to_stretches c some, from_stretches c)

-- what is claimed is said
pub claimed_said : (image : List Span) (m : Module) (claims : List Claim) (claim : Claim) (a : ℕ) → SaysClaims image m claims → Contains claims claim → IsTrue (in_range a claim.range) → SaysFactsAt image m a claim.facts
claimed_said image m claims claim a says has inside =
    let tables : HasTables image m = says.tables in
    let said = all_contains (IsClaimSaid (bases_of m tables.frame) (fdes_of tables.entries)) claims claim says.each has in
    let lies = range_holds (bases_of m tables.frame) said.fde claim.range a inside in
    let start = said.says.from in
    let end = said.says.to in
    record {
      tables = tables;
      fde = said.fde;
      listed = said.listed;
      covers = covers_is said.fde a (omega arith) (omega arith);
      unmarked = said.says.unmarked;
      row = said.says.each a inside;
    }
