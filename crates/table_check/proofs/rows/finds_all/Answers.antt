use Rattle.std.proofs.Common.{sym, ◌∙◌}
use Rattle.unwind_definitions.specs.State.{RBX, RBP, R12, R13, R14, R15}
use Rattle.table_check.specs.FrameRules.{IsFound}
use Rattle.table_check.proofs.Deciding.{decides_no, decides_not}
use Rattle.table_check.proofs.FrameSteps.{six}
use Rattle.table_check.proofs.rows.finds_all.Goals as goal

pub returns-then-not-finds : goal.returns-then-not-finds
returns-then-not-finds c = decides_no (λ all. decides_not c.finds.result c.finds.ensures c.if-not-finds.true (all.1 RBX))

pub returns-then-not-finds-2 : goal.returns-then-not-finds-2
returns-then-not-finds-2 c = decides_no (λ all. decides_not c.finds-2.result c.finds-2.ensures c.if-not-finds-2.true (all.1 RBP))

pub returns-then-not-finds-3 : goal.returns-then-not-finds-3
returns-then-not-finds-3 c = decides_no (λ all. decides_not c.finds-3.result c.finds-3.ensures c.if-not-finds-3.true (all.1 R12))

pub returns-then-not-finds-4 : goal.returns-then-not-finds-4
returns-then-not-finds-4 c = decides_no (λ all. decides_not c.finds-4.result c.finds-4.ensures c.if-not-finds-4.true (all.1 R13))

pub returns-then-not-finds-5 : goal.returns-then-not-finds-5
returns-then-not-finds-5 c = decides_no (λ all. decides_not c.finds-5.result c.finds-5.ensures c.if-not-finds-5.true (all.1 R14))

pub returns : goal.returns
returns c = (
  λ h. (
    sym c.has_return_address.ensures ∙ c.if-not-has_return_address.false,
    six (IsFound c.args.frame.now c.args.ruled.now) (c.finds.ensures.0 c.if-not-finds.false) (c.finds-2.ensures.0 c.if-not-finds-2.false) (c.finds-3.ensures.0 c.if-not-finds-3.false)
        (c.finds-4.ensures.0 c.if-not-finds-4.false) (c.finds-5.ensures.0 c.if-not-finds-5.false) (c.finds-6.ensures.0 h),
  ),
  λ all. c.finds-6.ensures.1 (all.1 R15),
)
