use Rattle.std.proofs.Common.{◌∙◌}
use Rattle.sampled_profile.proofs.NameLemmas.{named_in}
use Rattle.sampled_profile.proofs.names.ThreadNames.name.Goals as goal

pub returns : goal.returns
returns c = λ earlier knows. c.name_within.ensures ∙ named_in c.args.self.now earlier knows c.args.thread
