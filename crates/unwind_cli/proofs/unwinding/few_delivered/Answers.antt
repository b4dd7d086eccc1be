use Rattle.stack_steps.specs.Languages.{languages_of}
use Rattle.unwind_cli.proofs.FewDeliveries.{few_are_given}
use Rattle.unwind_cli.proofs.unwinding.few_delivered.Goals as goal

pub returns : goal.returns
returns c =
    let s = c.args.snapshot.now in
    let met = c.meets_limit.ensures in
    let within = c.if-meets_limit.false in
    few_are_given (languages_of c.args.languages.now) c.args.space.now s.start s.exception s.resumes c.args.few s.limit c.delivery_within-delivered.result c.requires (met.states within) (met.cleanups within) c.delivery_within-delivered.ensures
