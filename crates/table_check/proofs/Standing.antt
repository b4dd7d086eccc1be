-- Entries that stand one after another.
use Rattle.std.proofs.Common.{◌≡◌, ℕ, ◌-◌, ◌^◌, false, cond, List, [], ◌∷◌, ◌++◌, Option, Some, None, Result, Ok, Err, refl, sym, ap, subst, ◌∙◌, inr, arith}
use Rattle.std.specs.Prelude.{nat_lt}
use Rattle.std.specs.Bool.{Decides}
use Rattle.std.specs.Int.{w32}
use Rattle.std.proofs.lemmas.Bool.{lt-ltb, ltb-true}
use Rattle.unwind_definitions.specs.declared.error.Error.{Error as Fault}
use Rattle.unwind_definitions.specs.Input.{Input, number, skip}
use Rattle.unwind_definitions.specs.Pointers.{Bases}
use Rattle.unwind_definitions.specs.Entries.{Entry, Found, entry_at}
use Rattle.eh_frame.specs.Listing.{Listing, after, entry_in, upcoming}
use Rattle.table_check.specs.Scanned.{IsFirstRefused, IsShortAt, StandBefore}

-- one more
pub stand_more : (bases : Bases) (table : Input) (from : ℕ) (before : List Entry) (offset next : ℕ) (e : Entry) → StandBefore bases table from before offset →
    entry_at bases table offset ≡ Ok (Some (record { entry = e; next = next })) → IsShortAt table offset → StandBefore bases table from (before ++ e ∷ []) next
stand_more bases table from [] offset next e stand at short = (next, ap (entry_at bases table) stand ∙ at, subst (IsShortAt table) (sym stand) short, refl)
stand_more bases table from (x ∷ before) offset next e stand at short = (stand.0, stand.1, stand.2, stand_more bases table stand.0 before offset next e stand.3 at short)

module _ (l : Listing) (going : l.is_over ≡ false) where
  here : upcoming l ≡ entry_at l.bases l.table l.offset
  here = ap (λ b. cond b (Ok None) (entry_at l.bases l.table l.offset)) going

  -- what is read next
  pub reads_fault : (e : Fault) → entry_in (upcoming l) ≡ Err e → entry_at l.bases l.table l.offset ≡ Err e
  reads_fault e is = sym here ∙ fault (upcoming l) is
    where
      fault : (r : Result (Option Found) Fault) → entry_in r ≡ Err e → r ≡ Err e
      fault (Ok o) h = absurd cc
      fault (Err d) h = let same : d ≡ e = cc in ap (λ x. Err x) same

  pub reads_end : entry_in (upcoming l) ≡ Ok None → entry_at l.bases l.table l.offset ≡ Ok None
  reads_end is = sym here ∙ end (upcoming l) is
    where
      end : (r : Result (Option Found) Fault) → entry_in r ≡ Ok None → r ≡ Ok None
      end (Ok None) h = refl
      end (Ok (Some f)) h = absurd cc
      end (Err d) h = absurd cc

  pub reads_entry : (e : Entry) → entry_in (upcoming l) ≡ Ok (Some e) → (next : ℕ) × (entry_at l.bases l.table l.offset ≡ Ok (Some (record { entry = e; next = next }))) × (after l (upcoming l) ≡ record l { offset = next })
  reads_entry e is = let f = found (upcoming l) is in (f.0, sym here ∙ f.1, ap (after l) f.1)
    where
      found : (r : Result (Option Found) Fault) → entry_in r ≡ Ok (Some e) → (next : ℕ) × (r ≡ Ok (Some (record { entry = e; next = next })))
      found (Ok None) h = absurd cc
      found (Ok (Some f)) h = let same : f.entry ≡ e = cc in (f.next, ap (λ x. Ok (Some (record { entry = x; next = f.next }))) same)
      found (Err d) h = absurd cc

abbrev number_in : Result (ℕ × Input) Fault → ℕ
number_in (Ok r) = r.0
number_in (Err e) = 0

-- what four bytes spell at an offset tells whether the length there is short
pub short_by : (table : Input) (offset n : ℕ) (rest : Input) → number w32 (skip offset table) ≡ Ok (n, rest) → Decides (nat_lt n (2 ^ 32 - 1)) (IsShortAt table offset)
short_by table offset n rest read = (
  λ h. (n, rest, read, ltb-true n (2 ^ 32 - 1) h),
  λ s. let a = s.2 in let same : s.0 ≡ n = ap number_in (sym s.2 ∙ read) in lt-ltb n (2 ^ 32 - 1) (let b = s.3 in omega (arith, b, same)),
)

-- ---- one more entry is read

module _ (bases : Bases) (table : Input) (l : Listing) (inv : l ≡ record { table = table; bases = bases; offset = l.offset; is_over = false }) (before : List Entry) (stand : StandBefore bases table 0 before l.offset) (e : Entry) (read : entry_in (upcoming l) ≡ Ok (Some e)) where
  abbrev pub next_found : (next : ℕ) × (entry_at l.bases l.table l.offset ≡ Ok (Some (record { entry = e; next = next }))) × (after l (upcoming l) ≡ record l { offset = next })
  next_found = reads_entry l (ap (λ (x : Listing). x.is_over) inv) e read

  pub at_here : entry_at bases table l.offset ≡ Ok (Some (record { entry = e; next = next_found.0 }))
  at_here = subst (λ (x : Listing). entry_at x.bases x.table x.offset ≡ Ok (Some (record { entry = e; next = next_found.0 }))) inv next_found.1

  -- an entry whose length isn't short is the first that is refused
  pub refuses_long : (IsShortAt table l.offset → ⊥) → IsFirstRefused bases table l.offset
  refuses_long long = record { before = before; stand = stand; refused = inr (e, next_found.0, at_here, long) }

  module _ (new : Listing) (rest : new ≡ after l (upcoming l)) where
    new_is : new ≡ record { table = table; bases = bases; offset = next_found.0; is_over = false }
    new_is = rest ∙ next_found.2 ∙ ap (λ (x : Listing). record x { offset = next_found.0 }) inv

    pub goes_on_over : new ≡ record { table = table; bases = bases; offset = new.offset; is_over = false }
    goes_on_over = new_is ∙ ap (λ n. record { table = table; bases = bases; offset = n; is_over = false }) (sym (ap (λ (x : Listing). x.offset) new_is))

    pub stands_on : IsShortAt table l.offset → StandBefore bases table 0 (before ++ e ∷ []) new.offset
    stands_on short = subst (StandBefore bases table 0 (before ++ e ∷ [])) (sym (ap (λ (x : Listing). x.offset) new_is)) (stand_more bases table 0 before l.offset next_found.0 e stand at_here short)
