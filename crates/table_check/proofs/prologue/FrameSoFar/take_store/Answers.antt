use Rattle.std.proofs.Common.{◌≡◌, ℕ, ◌+◌, ◌≤◌, ◌++◌, ◌∷◌, [], sym, subst, arith}
use Rattle.std.specs.Prelude.{◌≢◌}
use Rattle.std.specs.List.{AllByRecursion}
use Rattle.unwind_definitions.specs.State.{CalleeSaved}
use Rattle.unwind_definitions.specs.Prologue.{Followed, Register, Save, Store, depth, saves, size_of}
use Rattle.table_check.specs.ClaimViews.{register_of}
use Rattle.table_check.specs.Frames.{IsFrameAfter, callee_saved_of}
use Rattle.table_check.proofs.FrameSteps.{none_of_unsaved}
use Rattle.table_check.proofs.prologue.FrameSoFar.take_store.Goals as goal

room : (r : Register) (q : CalleeSaved) → r ≡ Followed q → (k n : ℕ) → k + size_of r + 8 ≤ n → k + 16 ≤ n
room r q is k n within = let w : k + 8 + 8 ≤ n = subst (λ x. k + size_of x + 8 ≤ n) is within in omega (arith, w)

pub returns-in-Some : goal.returns-in-Some
returns-in-Some c before was next =
    let q = callee_saved_of c.in-Some.register in
    let reg = c.in-Some.ensures in
    let none = none_of_unsaved q (saves before) (subst (λ r. AllByRecursion (λ (s : Save). s.register ≢ r) (saves before)) reg next.1) in
    let within : c.args.offset + 16 ≤ depth before = room (register_of c.args.column.0) q reg c.args.offset (depth before) next.0.2 in
    subst (λ r. IsFrameAfter c.store.new.self (before ++ Store r c.args.offset ∷ [])) (sym reg) (c.store.ensures before was within none)
