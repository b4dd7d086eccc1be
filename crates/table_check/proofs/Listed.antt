-- Descriptions that the table of a header lists, one more at a time.
use Rattle.std.proofs.Common.{◌≡◌, ℕ, ◌+◌, ◌<◌, Bool, true, false, List, [], ◌∷◌, ◌++◌, length, None, refl, sym, subst, arith, length-append}
use Rattle.std.specs.Bool.{Decides}
use Rattle.std.specs.List.{AllByRecursion, Contains}
use Rattle.unwind_definitions.specs.Entries.{Fde}
use Rattle.unwind_definitions.specs.Header.{PairTable}
use Rattle.unwind_definitions.specs.Module.{pair_of}
use Rattle.table_check.specs.declared.header_tables.ListedSoFar.{ListedSoFar}
use Rattle.table_check.specs.Pairs.{AreRead, AreReadSoFar, IsListedSoFar, ListsEach}
use Rattle.table_check.proofs.Ascending.{all_read, begins}

-- what holds of all, and of one more
module _ {A : Type 0} (P : A → Type 0) where
  all_and : (xs : List A) (x : A) → AllByRecursion P xs → P x → AllByRecursion P (xs ++ x ∷ [])
  all_and [] x all one = (one, tt)
  all_and (y ∷ xs) x all one = (all.0, all_and xs x all.1 one)

  all_but : (xs : List A) (x : A) → AllByRecursion P (xs ++ x ∷ []) → AllByRecursion P xs
  all_but [] x all = tt
  all_but (y ∷ xs) x all = (all.0, all_but xs x all.1)

  the_last : (xs : List A) (x : A) → AllByRecursion P (xs ++ x ∷ []) → P x
  the_last [] x all = all.0
  the_last (y ∷ xs) x all = the_last xs x all.1

true_false : (b : Bool) → b ≡ true → b ≡ false → ⊥
true_false true is isnt = cc
true_false false is isnt = cc

module _ (t : PairTable) (frame : ℕ) where
  pub none_listed : (l : ListedSoFar) → l.are_listed ≡ true → l.last_start ≡ None → IsListedSoFar t frame [] l
  none_listed l all first = record {
    yes = λ is. (subst (AreReadSoFar t 0) (sym first) (begins t), λ read r. tt);
    no = λ isnt within read r has. true_false l.are_listed all isnt;
  }

  module _ (fdes : List Fde) (l : ListedSoFar) (so_far : IsListedSoFar t frame fdes l) where
    -- ---- one more description

    module _ (fde : Fde) where
      one_more : length (fdes ++ fde ∷ []) ≡ length fdes + 1
      one_more = length-append fdes (fde ∷ [])

      abbrev HasPair : List (ℕ × ℕ) → Fde → Type 0
      HasPair read x = Contains read (pair_of frame x)

      -- it has its pair, and one more pair is read
      listed_on : (later : ListedSoFar) → l.are_listed ≡ true → later.are_listed ≡ true → AreReadSoFar t (length fdes + 1) later.last_start → ((read : List (ℕ × ℕ)) → AreRead t read → Contains read (pair_of frame fde)) → IsListedSoFar t frame (fdes ++ fde ∷ []) later
      listed_on later all more reads has = record {
        yes = λ is. (subst (λ n. AreReadSoFar t n later.last_start) (sym one_more) reads, λ read r. all_and (HasPair read) fdes fde ((so_far.yes all).1 read r) (has read r));
        no = λ isnt within read r each. true_false later.are_listed more isnt;
      }

      -- it has none, or there is no such pair
      listed_no_more : (later : ListedSoFar) → later.are_listed ≡ false → (length fdes < t.count → (read : List (ℕ × ℕ)) → AreRead t read → Contains read (pair_of frame fde) → ⊥) → IsListedSoFar t frame (fdes ++ fde ∷ []) later
      listed_no_more later no_more hasnt = record {
        yes = λ is. absurd (true_false later.are_listed is no_more);
        no = λ isnt within read r each. hasnt (let n = one_more in omega (arith, within, n)) read r (the_last (HasPair read) fdes fde each);
      }

      -- so it is listed as is said
      pub listed_next : (later : ListedSoFar) → l.are_listed ≡ true → (later.are_listed ≡ true → AreReadSoFar t (length fdes + 1) later.last_start × ((read : List (ℕ × ℕ)) → AreRead t read → Contains read (pair_of frame fde))) →
          (later.are_listed ≡ false → length fdes < t.count → (read : List (ℕ × ℕ)) → AreRead t read → Contains read (pair_of frame fde) → ⊥) → IsListedSoFar t frame (fdes ++ fde ∷ []) later
      listed_next later all has hasnt = go later.are_listed refl
        where
          go : (b : Bool) → later.are_listed ≡ b → IsListedSoFar t frame (fdes ++ fde ∷ []) later
          go true is = let h = has is in listed_on later all is h.0 h.1
          go false isnt = listed_no_more later isnt (hasnt isnt)

      -- one before has none
      pub listed_as_little : l.are_listed ≡ false → IsListedSoFar t frame (fdes ++ fde ∷ []) l
      listed_as_little isnt = record {
        yes = λ is. absurd (true_false l.are_listed is isnt);
        no = λ also within read r each. so_far.no isnt (let n = one_more in omega (arith, within, n)) read r (all_but (HasPair read) fdes fde each);
      }

    -- ---- all descriptions

    lists_each : t.count ≡ length fdes → l.are_listed ≡ true → ListsEach t frame fdes
    lists_each many all =
        let both = so_far.yes all in
        let r = all_read t (length fdes) l.last_start (omega (arith, many)) (omega (arith, many)) both.0 in
        record { count = many; pairs = r.0; read = r.1; each = both.1 r.0 r.1 }

    lists_not : l.are_listed ≡ false → ListsEach t frame fdes → ⊥
    lists_not isnt e = let many = e.count in so_far.no isnt (omega (arith, many)) e.pairs e.read e.each

    -- where they are as many as the pairs
    pub listed_decides : t.count ≡ length fdes → Decides l.are_listed (ListsEach t frame fdes)
    listed_decides many = (lists_each many, all_of l.are_listed refl)
      where
        all_of : (b : Bool) → l.are_listed ≡ b → ListsEach t frame fdes → l.are_listed ≡ true
        all_of true is e = is
        all_of false isnt e = absurd (lists_not isnt e)
