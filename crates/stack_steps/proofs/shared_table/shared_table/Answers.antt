use Rattle.stack_steps.proofs.Sharing.{served_if_ok}
use Rattle.stack_steps.proofs.shared_table.shared_table.Goals as goal

pub returns-then-serves-clause-table : goal.returns-then-serves-clause-table
returns-then-serves-clause-table c =
    served_if_ok c.args.image.now c.args.tables c.args.left c.in-Some.before c.share_of.result (rw c.in-Some.is at c.requires) c.if-serves.ensures.0 c.if-serves.ensures.1 c.share_of.ensures
