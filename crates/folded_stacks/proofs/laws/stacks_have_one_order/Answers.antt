use Rattle.std.proofs.Common.{Less, Equal}
use Rattle.folded_stacks.proofs.Orders.{before_order, same_order, says}
use Rattle.folded_stacks.proofs.laws.stacks_have_one_order.Goals as goal

pub returns-clause-before : goal.returns-clause-before
returns-clause-before c = λ s t. (λ e. says s t Less e, λ h. before_order s t h)

pub returns-clause-same : goal.returns-clause-same
returns-clause-same c = λ s t. (λ e. says s t Equal e, λ h. same_order s t h)
