use Rattle.std.proofs.Common.{sym, subst}
use Rattle.unwind_definitions.specs.Prologue.{SystemV}
use Rattle.unwind_definitions.specs.Function.{IsFunction}
use Rattle.table_check.specs.declared.claims.Claim.{Claim}
use Rattle.table_check.specs.ClaimViews.{function_of}
use Rattle.table_check.proofs.Deciding.{decides_not}
use Rattle.table_check.proofs.GoneThrough.{fails_here}
use Rattle.table_check.proofs.functions.first_no_function.Goals as goal

pub returns-then-not-is_function : goal.returns-then-not-is_function
returns-then-not-is_function c =
    fails_here function_of (IsFunction SystemV) c.args.claims.now c.loop-i.i c.index-claims-i.result c.loop-i-test.true c.loop-i.invariant (λ is.
    decides_not c.is_function.result c.is_function.ensures c.if-not-is_function.true (subst (λ (x : Claim). IsFunction SystemV (function_of x)) (sym c.index-claims-i.is) is))
