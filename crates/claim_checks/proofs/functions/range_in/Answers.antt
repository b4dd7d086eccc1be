use Rattle.std.proofs.Common.{sym, arith}
use Rattle.claim_checks.proofs.Lists.{range_in_other}
use Rattle.claim_checks.proofs.functions.range_in.Goals as goal

pub returns-in_default : goal.returns-in_default
returns-in_default c = sym (range_in_other c.args.items.now (omega arith))

pub returns-in_default-2 : goal.returns-in_default-2
returns-in_default-2 c = sym (range_in_other c.args.items.now (omega arith))
