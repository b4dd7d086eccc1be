-- What is asked of the row at each address of a function. No public clause cites this.
use Rattle.std.specs.Prelude.{◌≡◌, ◌⊎◌, ℕ, ◌-◌, ◌<◌, ◌≤◌, Bool, true, false, List, Result, Ok, IsTrue, IsFalse}
use Rattle.std.specs.List.{AllByRecursion, list_any}
use Rattle.unwind_definitions.specs.declared.error.Error.{Error as Fault}
use Rattle.unwind_definitions.specs.Row.{RowInstructions}
use Rattle.unwind_definitions.specs.Prologue.{steps_of}
use Rattle.unwind_definitions.specs.Function.{Function, Range, first_body, first_from, in_body, in_range}
use Rattle.unwind_definitions.specs.DescribedRows.{IsBodyRow, IsOutermostRow, IsPrologueRow, ended_by}
use Rattle.table_check.specs.declared.programs.Place.{Place}
use Rattle.table_check.specs.declared.programs.Place.TheVariants as place

-- a row that is due, of which something holds
abbrev pub IsDue : Result RowInstructions Fault → (RowInstructions → Type 0) → Type 0
IsDue due P = (run : RowInstructions) × (due ≡ Ok run) × P run

-- the row that is due at an address is the one that is asked there
pub record Fits (f : Function) (pc : ℕ) (due : Result RowInstructions Fault) : Type 0 where
  pub body : IsFalse f.outermost → IsTrue (in_body f pc) → IsDue due (IsBodyRow (steps_of f.prologue))
  pub prologue : IsFalse f.outermost → pc < first_body f → IsDue due (IsPrologueRow (ended_by (pc - f.start) f.prologue))
  pub outermost : IsTrue f.outermost → IsTrue (in_body f pc) → IsDue due IsOutermostRow

-- what is asked at an address
abbrev pub IsPlace : Function → ℕ → Place → Type 0
IsPlace f pc place.Body = (f.outermost ≡ false) × (in_body f pc ≡ true)
IsPlace f pc place.Prologue = (f.outermost ≡ false) × (in_body f pc ≡ false) × (pc < first_body f)
IsPlace f pc place.Outermost = (f.outermost ≡ true) × (in_body f pc ≡ true)
IsPlace f pc place.Free = (in_body f pc ≡ false) × ((f.outermost ≡ true) ⊎ (first_body f ≤ pc))

-- the same by the parts of a function's body
abbrev pub IsPlaceAmong : Bool → ℕ → List Range → ℕ → Place → Type 0
IsPlaceAmong outermost end bodies pc place.Body = (outermost ≡ false) × (list_any (in_range pc) bodies ≡ true)
IsPlaceAmong outermost end bodies pc place.Prologue = (outermost ≡ false) × (list_any (in_range pc) bodies ≡ false) × (pc < first_from end bodies)
IsPlaceAmong outermost end bodies pc place.Outermost = (outermost ≡ true) × (list_any (in_range pc) bodies ≡ true)
IsPlaceAmong outermost end bodies pc place.Free = (list_any (in_range pc) bodies ≡ false) × ((outermost ≡ true) ⊎ (first_from end bodies ≤ pc))

-- an address lies before another, or not
abbrev pub IsFrontOf : Bool → ℕ → ℕ → Type 0
IsFrontOf true pc first = pc < first
IsFrontOf false pc first = first ≤ pc

-- no range begins or ends after an address and before another
abbrev pub AreEdgesQuiet : ℕ → ℕ → List Range → Type 0
AreEdgesQuiet pc next ranges = AllByRecursion (λ (r : Range). ((r.from ≤ pc) ⊎ (next ≤ r.from)) × ((r.to ≤ pc) ⊎ (next ≤ r.to))) ranges

-- from an address on, up to another, the same is asked
pub record IsQuiet (f : Function) (pc next : ℕ) : Type 0 where
  pub ends : (a : ℕ) → pc ≤ a → a < next → ended_by (a - f.start) f.prologue ≡ ended_by (pc - f.start) f.prologue
  pub edges : AreEdgesQuiet pc next f.bodies
