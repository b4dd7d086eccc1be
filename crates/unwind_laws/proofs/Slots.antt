-- A prologue's slots lie between the last stack pointer and the return address.
use Rattle.std.proofs.Common.{◌≡◌, ℕ, ◌+◌, ◌-◌, ◌≤◌, Bool, List, [], ◌∷◌, ◌++◌, refl, arith}
use Rattle.std.specs.Prelude.{IsTrue}
use Rattle.std.specs.List.{AllByRecursion}
use Rattle.std.proofs.lemmas.List.Sums.{sum_by_push}
use Rattle.memory_image.specs.Image.{Span}
use Rattle.unwind_definitions.specs.State.{State}
use Rattle.unwind_definitions.specs.Prologue.{Register, Followed, RDI, RSI, XMM, size_of, Step, Push, Allocate, SetFrame, Store, room_of, depth, saves_from, saves, Convention, SystemV, Windows, may_push, EachMayFollow}
use Rattle.unwind_definitions.specs.Entered.{Leaves, stack_after, IsEntered}
use Rattle.unwind_laws.specs.Apart.{LiesBetween}

-- the stack pointer falls
falls : (image : List Span) (t : State) (steps : List Step) (sp : ℕ) → Leaves image t sp steps → stack_after sp steps ≤ sp
falls image t [] sp leaves = omega arith
falls image t (Push r ∷ steps) sp leaves = let ih = falls image t steps (sp - 8) leaves.2 in omega arith
falls image t (Allocate n ∷ steps) sp leaves = let ih = falls image t steps (sp - n) leaves.1 in omega arith
falls image t (SetFrame m ∷ steps) sp leaves = falls image t steps sp leaves.1
falls image t (Store r k ∷ steps) sp leaves = falls image t steps sp leaves.2

-- what is pushed takes 8 bytes
pushed_size : (convention : Convention) (r : Register) → IsTrue (may_push convention r) → size_of r ≡ 8
pushed_size convention (Followed r) may = refl
pushed_size convention RDI may = refl
pushed_size convention RSI may = refl
pushed_size SystemV (XMM n) may = absurd cc
pushed_size Windows (XMM n) may = absurd cc

lie : (convention : Convention) (image : List Span) (t : State) (top : ℕ) (before steps : List Step) (d sp : ℕ) → depth before ≡ d → sp + d ≡ top → EachMayFollow convention before steps → Leaves image t sp steps →
    AllByRecursion (LiesBetween (stack_after sp steps) top) (saves_from d steps)
lie convention image t top before [] d sp is at may leaves = tt
lie convention image t top before (Push r ∷ steps) d sp is at may leaves =
    let low : 8 ≤ sp = leaves.0 in
    let eight : 8 ≤ d = omega (arith, is) in
    let fall = falls image t steps (sp - 8) leaves.2 in
    let size = pushed_size convention r may.0 in
    (record { inside = omega arith; below_return = omega arith }, lie convention image t top (before ++ Push r ∷ []) steps (d + 8) (sp - 8) (omega (arith, is, sum_by_push room_of before (Push r))) (omega arith) may.1 leaves.2)
lie convention image t top before (Allocate n ∷ steps) d sp is at may leaves =
    let low : n ≤ sp = leaves.0 in
    lie convention image t top (before ++ Allocate n ∷ []) steps (d + n) (sp - n) (omega (arith, is, sum_by_push room_of before (Allocate n))) (omega arith) may.1 leaves.1
lie convention image t top before (SetFrame m ∷ steps) d sp is at may leaves =
    lie convention image t top (before ++ SetFrame m ∷ []) steps d sp (omega (arith, is, sum_by_push room_of before (SetFrame m))) at may.1 leaves.1
lie convention image t top before (Store r k ∷ steps) d sp is at may leaves =
    let below : k + size_of r + 8 ≤ depth before = may.0.2 in
    let fall = falls image t steps sp leaves.2 in
    (record { inside = omega (arith, is); below_return = omega (arith, is) }, lie convention image t top (before ++ Store r k ∷ []) steps d sp (omega (arith, is, sum_by_push room_of before (Store r k))) at may.1 leaves.2)

-- of a state that is entered by steps
pub slots_lie : (convention : Convention) (image : List Span) (outermost : Bool) (steps : List Step) (t s : State) → EachMayFollow convention [] steps → IsEntered image outermost steps t s →
    AllByRecursion (LiesBetween (stack_after (t.sp - 8) steps) t.sp) (saves steps)
slots_lie convention image outermost steps t s may entered = let room = entered.room in lie convention image t t.sp [] steps 8 (t.sp - 8) refl (omega arith) may entered.leaves
