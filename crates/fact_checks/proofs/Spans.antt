-- Differences between addresses, one row after another.
use Rattle.std.proofs.Common.{◌≡◌, ℕ, ◌<◌, ◌≤◌, true, false, List, [], ◌∷◌, ◌++◌, Option, Some, None, Result, refl, ap, inl, inr, arith}
use Rattle.std.specs.Prelude.{MatchOption, max}
use Rattle.std.specs.List.{AllByRecursion, Contains}
use Rattle.std.specs.Option.{option_eq}
use Rattle.std.proofs.Common.{nat_eq}
use Rattle.std.proofs.lemmas.List.Elements.{Contains-append_left, Contains-append_right}
use Rattle.unwind_laws.proofs.Booleans.{first}
use Rattle.std.proofs.lemmas.Bool.{cases_lt, eqb-true, eqb-false}
use Rattle.unwind_definitions.specs.declared.error.Error.{Error as Fault}
use Rattle.unwind_definitions.specs.Instructions.{Coding}
use Rattle.unwind_definitions.specs.Row.{RowInstructions}
use Rattle.unwind_definitions.specs.Pointers.{Bases}
use Rattle.unwind_definitions.specs.Entries.{Fde, coding_of}
use Rattle.frame_rows.specs.Walks.{IsBefore, IsWalking, LeadsTo, end_of}
use Rattle.frame_rows.specs.declared.row_walk.RowWalk.{RowWalk}
use Rattle.eh_frame.specs.Walked.{due_row}
use Rattle.frame_facts.specs.Claims.{Claim}
use Rattle.fact_checks.specs.declared.rows.Mismatch.{Mismatch}
use Rattle.fact_checks.specs.RowFacts.{Differs, SaysDue}
use Rattle.fact_checks.specs.declared.stretches.Difference.{Difference}
use Rattle.fact_checks.specs.Stretches.{AreDifferences, HasRowAt, IsDifference, IsSaidOrListed}

-- ---- lists

pub all_both : {X : Type 0} (P : X → Type 0) (xs ys : List X) → AllByRecursion P xs → AllByRecursion P ys → AllByRecursion P (xs ++ ys)
all_both P [] ys left right = right
all_both P (x ∷ xs) ys left right = (left.0, all_both P xs ys left.1 right)

pub all_as : {X : Type 0} (P Q : X → Type 0) (xs : List X) → ((x : X) → P x → Q x) → AllByRecursion P xs → AllByRecursion Q xs
all_as P Q [] to all = tt
all_as P Q (x ∷ xs) to all = (to x all.0, all_as P Q xs to all.1)

-- ---- where rows end

pub ends_there : (end : Option ℕ) (next : ℕ) → option_eq nat_eq end (Some next) ≡ true → end ≡ Some next
ends_there None next is = absurd cc
ends_there (Some x) next is = ap Some (eqb-true x next is)

pub ends_later : (end : Option ℕ) (next : ℕ) → MatchOption end (Unit {0}) (λ e. next ≤ e) → option_eq nat_eq end (Some next) ≡ false → IsBefore next end
ends_later None next at is = tt
ends_later (Some x) next at is = let other = eqb-false x next is in omega (arith, at, other)

pub holds_before : (end : Option ℕ) (a next : ℕ) → a < next → MatchOption end (Unit {0}) (λ e. next ≤ e) → IsBefore a end
holds_before None a next below at = tt
holds_before (Some x) a next below at = omega (arith, at, below)

-- ---- differences

module _ (bases : Bases) (fde : Fde) (i : ℕ) (c : Claim) where
  pub no_differences : (low : ℕ) → AreDifferences bases fde i c low low []
  no_differences low = record { each = tt; every = λ a above inside below. absurd (omega (arith, above, below)) }

  -- where there are none, the rows say the facts
  pub none_said : (low high a : ℕ) (ds : List Difference) → AreDifferences bases fde i c low high ds → ds ≡ [] → low ≤ a → c.range.from ≤ a → a < high → SaysDue c.facts (due_row bases fde a)
  none_said low high a [] are none above inside below = elim (are.every a above inside below) [
    | inl says ↦ says
    | inr is ↦ absurd (let at = is.listed.1 in omega (arith, at))
  ]
  none_said low high a (d ∷ ds) are none above inside below = absurd cc

  -- a longer list
  listed_in : (a : ℕ) (ds es : List Difference) → ((d : Difference) → Contains ds d → Contains es d) → IsSaidOrListed bases fde i c ds a → IsSaidOrListed bases fde i c es a
  listed_in a ds es into (inl says) = inl says
  listed_in a ds es into (inr is) = inr record { difference = is.difference; listed = into is.difference is.listed; inside = is.inside; reached = is.reached; differs = is.differs }

  -- differences up to an address, and from there on
  pub more_differences : (low middle high : ℕ) (ds es : List Difference) → middle ≤ high → AreDifferences bases fde i c low middle ds → AreDifferences bases fde i c middle high es → AreDifferences bases fde i c low high (ds ++ es)
  more_differences low middle high ds es le left right = record {
    each = all_both (IsDifference bases fde i c high) ds es (all_as (IsDifference bases fde i c middle) (IsDifference bases fde i c high) ds (λ d is. let below = is.below in record { claim = is.claim; from = is.from; below = omega (arith, below, le); differs = is.differs }) left.each) right.each;
    every = λ a above inside below. elim (cases_lt a middle) [
      | inl less ↦ listed_in a ds (ds ++ es) (Contains-append_left ds es) (left.every a above inside less)
      | inr more ↦ listed_in a es (ds ++ es) (Contains-append_right ds es) (right.every a more inside below)
    ];
  }

  -- the differences of the row that a walk has at an address, up to another
  module _ (walk : RowWalk) (low high : ℕ) (has : HasRowAt bases fde walk low) (row : MatchOption (end_of walk) (Unit {0}) (λ e. high ≤ e)) where
    pub no_difference : ((coding : Coding) (from a : ℕ) (due : ℕ → Result RowInstructions Fault) → IsWalking walk coding from due → from ≤ a → IsBefore a (end_of walk) → SaysDue c.facts (due a)) → AreDifferences bases fde i c low high []
    no_difference says = record {
      each = tt;
      every = λ a above inside below. let reached = has.reached in inl (says (coding_of bases fde.cie) has.from a (due_row bases fde) has.walking (omega (arith, reached, above)) (holds_before (end_of walk) a high below row));
    }

    pub one_difference : (place : ℕ) (m : Mismatch) → place ≡ max low c.range.from → low < high → c.range.from < high →
        ((coding : Coding) (from a : ℕ) (due : ℕ → Result RowInstructions Fault) → IsWalking walk coding from due → from ≤ a → IsBefore a (end_of walk) → Differs c.facts (due a) m) →
        AreDifferences bases fde i c low high (record { claim = i; address = place; mismatch = m } ∷ [])
    one_difference place m at below inside differs =
        let reached = has.reached in
        let under : place < high = omega (arith, at, below, inside) in
        record {
          each = (
            record {
              claim = refl;
              from = omega (arith, at);
              below = under;
              differs = differs (coding_of bases fde.cie) has.from place (due_row bases fde) has.walking (omega (arith, at, reached)) (holds_before (end_of walk) place high under row);
            },
            tt,
          );
          every = λ a above from limit. inr record {
            difference = record { claim = i; address = place; mismatch = m };
            listed = first (record { claim = i; address = place; mismatch = m }) [];
            inside = omega (arith, at);
            reached = omega (arith, at, above, from);
            differs = λ x after le. differs (coding_of bases fde.cie) has.from x (due_row bases fde) has.walking (omega (arith, at, reached, after)) (holds_before (end_of walk) x high (omega (arith, le, limit)) row);
          };
        }

-- a walk that has gone to an address has the row there
pub has_reached : (bases : Bases) (fde : Fde) (walk : RowWalk) (at : ℕ) → IsWalking walk (coding_of bases fde.cie) at (due_row bases fde) → HasRowAt bases fde walk at
has_reached bases fde walk at walking = record { from = at; walking = walking; reached = omega arith; before = ahead (end_of walk) walking.goes_on }
  where
    ahead : (end : Option ℕ) → MatchOption end (Unit {0}) (λ e. LeadsTo walk (coding_of bases fde.cie) at e (due_row bases fde)) → IsBefore at end
    ahead None to = tt
    ahead (Some e) to = to.ahead
