-- Where the row of a walk ends.
use Rattle.std.proofs.Common.{◌≡◌, ℕ, ◌<◌, ◌≤◌, true, false, Option, Some, None, ap, nat_eq, arith}
use Rattle.std.specs.Prelude.{MatchOption, Result}
use Rattle.std.specs.Option.{option_eq}
use Rattle.std.proofs.lemmas.Bool.{eqb-false, eqb-true}
use Rattle.unwind_definitions.specs.declared.error.Error.{Error as Fault}
use Rattle.unwind_definitions.specs.Instructions.{Coding}
use Rattle.unwind_definitions.specs.Row.{RowInstructions}
use Rattle.frame_rows.specs.Walks.{IsBefore, IsWalking, LeadsTo, end_of}
use Rattle.frame_rows.specs.declared.row_walk.RowWalk.{RowWalk}

pub is_end : (end : Option ℕ) (next : ℕ) → option_eq nat_eq end (Some next) ≡ true → end ≡ Some next
is_end None next is = absurd cc
is_end (Some x) next is = ap Some (eqb-true x next is)

pub before_other : (end : Option ℕ) (next : ℕ) → MatchOption end (Unit {0}) (λ e. next ≤ e) → option_eq nat_eq end (Some next) ≡ false → IsBefore next end
before_other None next at is = tt
before_other (Some x) next at is = let other = eqb-false x next is in omega (arith, at, other)

pub before_next : (end : Option ℕ) (a next : ℕ) → a < next → MatchOption end (Unit {0}) (λ e. next ≤ e) → IsBefore a end
before_next None a next below at = tt
before_next (Some x) a next below at = omega (arith, at, below)

pub before_end : (walk : RowWalk) (coding : Coding) (from : ℕ) (due : ℕ → Result RowInstructions Fault) → IsWalking walk coding from due → IsBefore from (end_of walk)
before_end walk coding from due walking = ahead (end_of walk) walking.goes_on
  where
    ahead : (end : Option ℕ) → MatchOption end (Unit {0}) (λ e. LeadsTo walk coding from e due) → IsBefore from end
    ahead None to = tt
    ahead (Some e) to = to.ahead
