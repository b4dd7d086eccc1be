use Rattle.std.proofs.Common.{inl, lit<, lit≤}
use Rattle.unwind_definitions.specs.Module.{AreApart}
use Rattle.unwind_laws.specs.Three.{module_of_first, module_of_others}
use Rattle.unwind_laws.proofs.Booleans.{pairs_two}
use Rattle.unwind_laws.proofs.ThreeStacks.{two_valid}
use Rattle.unwind_laws.proofs.samples.calls_through_two_modules_are_caught.Goals as goal

pub returns-clause-process : goal.returns-clause-process
returns-clause-process c = record { regions = (lit≤ tt, lit< tt, lit≤ tt, (lit≤ tt, lit< tt, lit≤ tt, (lit≤ tt, lit< tt, lit≤ tt, (lit≤ tt, lit< tt, lit≤ tt, tt)))); ranges = ((lit< tt, lit< tt), ((lit< tt, lit< tt), tt)); apart = pairs_two AreApart module_of_first module_of_others (inl (lit≤ tt)) }

pub returns-clause-valid : goal.returns-clause-valid
returns-clause-valid c = two_valid
