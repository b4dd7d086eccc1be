use Rattle.std.proofs.Common.{◌≡◌, ℕ, zero, suc, ◌≤◌, Some, refl, arith, lit<, lit≤}
use Rattle.std.specs.Prelude.{slice_get}
use Rattle.pe_unwind_info.specs.declared.x86_64.function_table.RuntimeFunction.{RuntimeFunction}
use Rattle.pe_unwind_info.specs.TableSample.{functions, second}
use Rattle.pe_unwind_info.proofs.x86_64.function_table.table_of_two_is_in_order.Goals as goal

pub returns-clause-ascends : goal.returns-clause-ascends
returns-clause-ascends c = ascends
  where
    ascends : (i j : ℕ) (a b : RuntimeFunction) → i ≤ j → slice_get functions i ≡ Some a → slice_get functions j ≡ Some b → a.begin_address ≤ b.begin_address
    ascends zero zero a b le at_i at_j = let x : 0x1000 ≡ a.begin_address = cc in let y : 0x1000 ≡ b.begin_address = cc in omega arith
    ascends zero (suc zero) a b le at_i at_j = let x : 0x1000 ≡ a.begin_address = cc in let y : 0x1020 ≡ b.begin_address = cc in omega arith
    ascends (suc zero) (suc zero) a b le at_i at_j = let x : 0x1020 ≡ a.begin_address = cc in let y : 0x1020 ≡ b.begin_address = cc in omega arith
    ascends (suc zero) zero a b le at_i at_j = absurd (omega arith)
    ascends (suc (suc i)) j a b le at_i at_j = absurd cc
    ascends i (suc (suc j)) a b le at_i at_j = absurd cc

pub returns-clause-ordered : goal.returns-clause-ordered
returns-clause-ordered c = (lit≤ tt, lit< tt, lit≤ tt, (lit≤ tt, lit< tt, lit≤ tt, tt))

pub returns-clause-answer : goal.returns-clause-answer
returns-clause-answer c = (Some second, record { index = 1; at = refl; below = lit≤ tt; above = λ next is. absurd cc }, refl)
