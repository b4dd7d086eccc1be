use Rattle.std.proofs.Common.{lit<, lit≤}
use Rattle.unwind_definitions.specs.Module.{AreApart}
use Rattle.unwind_laws.specs.Three.{module_of_them}
use Rattle.unwind_laws.proofs.Booleans.{pairs_one}
use Rattle.unwind_laws.proofs.ThreeStacks.{deep_valid}
use Rattle.unwind_laws.proofs.samples.each_call_is_cleaned.Goals as goal

pub returns-clause-process : goal.returns-clause-process
returns-clause-process c = record { regions = (lit≤ tt, lit< tt, lit≤ tt, (lit≤ tt, lit< tt, lit≤ tt, (lit≤ tt, lit< tt, lit≤ tt, (lit≤ tt, lit< tt, lit≤ tt, tt)))); ranges = ((lit< tt, lit< tt), tt); apart = pairs_one AreApart module_of_them }

pub returns-clause-valid : goal.returns-clause-valid
returns-clause-valid c = deep_valid
