use Rattle.sampled_profile.proofs.ScriptLemmas.{script_same}
use Rattle.sampled_profile.proofs.laws.scripts_stay_as_modules_are_prepared.Goals as goal

pub returns : goal.returns
returns c = λ space added origins limit records. script_same space added origins limit records
