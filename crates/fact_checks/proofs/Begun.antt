-- Rows that are gone through so far lie before later addresses too.
use Rattle.std.proofs.Common.{ℕ, ◌≤◌, Option, Some, None, arith}
use Rattle.unwind_definitions.specs.Pointers.{Bases}
use Rattle.frame_rows.specs.declared.row_walk.RowWalk.{RowWalk}
use Rattle.fact_checks.specs.declared.auditing.Begun.{Begun}
use Rattle.fact_checks.specs.Looking.{IsBegun}

pub begun_above : (bases : Bases) (walk : RowWalk) (low high : ℕ) (begun : Option Begun) → low ≤ high → IsBegun bases walk low begun → IsBegun bases walk high begun
begun_above bases walk low high None le is = tt
begun_above bases walk low high (Some b) le is = let at = is.1 in (is.0, omega (arith, at, le))
