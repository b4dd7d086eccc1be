use Rattle.sampled_profile.proofs.ProfileLemmas.{profile_same}
use Rattle.sampled_profile.proofs.laws.profiles_stay_as_modules_are_prepared.Goals as goal

pub returns : goal.returns
returns c = λ space added origins limit records. profile_same space added origins limit records
