use Rattle.std.proofs.Common.{subst}
use Rattle.std.specs.Bool.{Decides}
use Rattle.unwind_definitions.specs.State.{RBX, RBP, R12, R13, R14, R15}
use Rattle.frame_rows.specs.Rules.{rule_meaning}
use Rattle.table_check.specs.FrameRules.{IsKeptRule, return_rule}
use Rattle.table_check.proofs.RowRules.{fits_saved}
use Rattle.table_check.proofs.frame_rules.RuledRegisters.take.Goals as goal

pub returns-in-3-clause-fits : goal.returns-in-3-clause-fits
returns-in-3-clause-fits c =
    let rule = rule_meaning c.args.rule.now in
    fits_saved c.args.frame.now (return_rule c.args.expected) rule c.take_saved.result c.args.register.0 RBX c.in-3.is (subst (λ s. Decides c.take_saved.result (IsKeptRule s rule)) c.slot.ensures c.take_saved.ensures.fits)

pub returns-in-6-clause-fits : goal.returns-in-6-clause-fits
returns-in-6-clause-fits c =
    let rule = rule_meaning c.args.rule.now in
    fits_saved c.args.frame.now (return_rule c.args.expected) rule c.take_saved-in-6.result c.args.register.0 RBP c.in-6.is (subst (λ s. Decides c.take_saved-in-6.result (IsKeptRule s rule)) c.slot-in-6.ensures c.take_saved-in-6.ensures.fits)

pub returns-in-12-clause-fits : goal.returns-in-12-clause-fits
returns-in-12-clause-fits c =
    let rule = rule_meaning c.args.rule.now in
    fits_saved c.args.frame.now (return_rule c.args.expected) rule c.take_saved-in-12.result c.args.register.0 R12 c.in-12.is (subst (λ s. Decides c.take_saved-in-12.result (IsKeptRule s rule)) c.slot-in-12.ensures c.take_saved-in-12.ensures.fits)

pub returns-in-13-clause-fits : goal.returns-in-13-clause-fits
returns-in-13-clause-fits c =
    let rule = rule_meaning c.args.rule.now in
    fits_saved c.args.frame.now (return_rule c.args.expected) rule c.take_saved-in-13.result c.args.register.0 R13 c.in-13.is (subst (λ s. Decides c.take_saved-in-13.result (IsKeptRule s rule)) c.slot-in-13.ensures c.take_saved-in-13.ensures.fits)

pub returns-in-14-clause-fits : goal.returns-in-14-clause-fits
returns-in-14-clause-fits c =
    let rule = rule_meaning c.args.rule.now in
    fits_saved c.args.frame.now (return_rule c.args.expected) rule c.take_saved-in-14.result c.args.register.0 R14 c.in-14.is (subst (λ s. Decides c.take_saved-in-14.result (IsKeptRule s rule)) c.slot-in-14.ensures c.take_saved-in-14.ensures.fits)

pub returns-in-15-clause-fits : goal.returns-in-15-clause-fits
returns-in-15-clause-fits c =
    let rule = rule_meaning c.args.rule.now in
    fits_saved c.args.frame.now (return_rule c.args.expected) rule c.take_saved-in-15.result c.args.register.0 R15 c.in-15.is (subst (λ s. Decides c.take_saved-in-15.result (IsKeptRule s rule)) c.slot-in-15.ensures c.take_saved-in-15.ensures.fits)
