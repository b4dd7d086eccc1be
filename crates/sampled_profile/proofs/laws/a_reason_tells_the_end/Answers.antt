use Rattle.sampled_profile.proofs.EndLemmas.{comes_told}
use Rattle.sampled_profile.proofs.laws.a_reason_tells_the_end.Goals as goal

pub returns : goal.returns
returns c = λ space why limit registers interrupted comes. comes_told space why limit registers interrupted comes
