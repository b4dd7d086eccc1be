use Rattle.frame_expressions.specs.Answers.{stack_of}
use Rattle.frame_expressions.proofs.Answered.{answered_value, answered_fault, answered_endless}
use Rattle.frame_expressions.proofs.evaluation.evaluate.Goals as goal

pub returns : goal.returns
returns g c =
    let columns = g.R.RegisterMap.columns c.args.registers.now in
    record {
      value = λ v. answered_value c.args.image.now c.args.expression.now (stack_of c.args.initial) columns c.run.result v c.run.ensures;
      fault = λ e. answered_fault c.args.image.now c.args.expression.now (stack_of c.args.initial) columns c.run.result e c.run.ensures;
      endless = answered_endless c.args.image.now c.args.expression.now (stack_of c.args.initial) columns c.run.result c.run.ensures;
      evaluated = c.run.ensures;
    }
