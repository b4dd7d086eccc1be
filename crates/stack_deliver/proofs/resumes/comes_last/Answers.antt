use Rattle.std.proofs.lemmas.Bool.{ltb-true}
use Rattle.stack_deliver.proofs.Ascending.{all_below}
use Rattle.stack_deliver.proofs.resumes.comes_last.Goals as goal

pub returns-in-Some : goal.returns-in-Some
returns-in-Some c lower = all_below c.args.entries.now c.args.pad c.in-Some.last.now c.requires c.in-Some.ensures.value (ltb-true _ _ lower)
