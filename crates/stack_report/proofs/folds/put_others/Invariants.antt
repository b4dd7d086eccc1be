use Rattle.std.proofs.Common.{◌≡◌, ◌++◌, drop}
use Rattle.stack_report.specs.Folds.{other_addresses}
use Rattle.stack_report.proofs.folds.put_others.Given as goal

abbrev pub invariant-loop-address : goal.invariant-loop-address
invariant-loop-address l =
    l.report ++ other_addresses (drop l.address-index l.others) ≡ l.initial.report ++ other_addresses l.others
