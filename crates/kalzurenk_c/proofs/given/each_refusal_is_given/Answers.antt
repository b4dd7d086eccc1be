use Rattle.std.proofs.Common.{refl}
use Rattle.kalzurenk_c.proofs.given.each_refusal_is_given.Goals as goal

pub returns-clause-taken : goal.returns-clause-taken
returns-clause-taken c = (refl, (_, refl))
