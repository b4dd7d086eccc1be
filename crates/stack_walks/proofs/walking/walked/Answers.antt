use Rattle.stack_walks.specs.Lines.{line_of}
use Rattle.stack_walks.proofs.Results.{err_walked, ok_walked}
use Rattle.stack_walks.proofs.walking.walked.Goals as goal

pub returns-in-Ok : goal.returns-in-Ok
returns-in-Ok c = record { exact = ok_walked c.unwinding_by_made.result c.in-Ok.field-0 c.unwinding_by_made.new.room (line_of c.args.space.now c.args.limit c.args.start.now c.args.interrupted) c.in-Ok.is c.unwinding_by_made.ensures.walks }

pub returns-in-Err : goal.returns-in-Err
returns-in-Err c = record { exact = err_walked c.unwinding_by_made.result c.in-Err.error c.unwinding_by_made.new.room (line_of c.args.space.now c.args.limit c.args.start.now c.args.interrupted) c.in-Err.is c.unwinding_by_made.ensures.walks }
