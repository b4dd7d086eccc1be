use Rattle.unwind_laws.proofs.Ruled.{caller_is_ruled}
use Rattle.unwind_laws.proofs.rows.caller_is_by_rules.Goals as goal

pub returns : goal.returns
returns c machine evaluates image columns cfa run rules are = caller_is_ruled machine evaluates image columns cfa run rules are
