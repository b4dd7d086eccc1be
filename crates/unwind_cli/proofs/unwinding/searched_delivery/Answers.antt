use Rattle.stack_steps.specs.Languages.{languages_of}
use Rattle.unwind_cli.proofs.Indexes.{same_indexes, some_before}
use Rattle.unwind_cli.proofs.unwinding.searched_delivery.Goals as goal

pub returns-in_err-few-clause-same : goal.returns-in_err-few-clause-same
returns-in_err-few-clause-same c = same_indexes c.args.space.now

pub returns-in-Some-clause-same : goal.returns-in-Some-clause-same
returns-in-Some-clause-same c = same_indexes c.args.space.now

pub returns-clause-delivered : goal.returns-clause-delivered
returns-clause-delivered c =
    let s = c.args.snapshot.now in
    some_before (languages_of c.args.languages.now) c.args.space.now c.more_delivered.new.space s.start s.exception s.resumes s.limit c.few_delivered-2.result c.more_delivered.ensures.same c.few_delivered-2.ensures
