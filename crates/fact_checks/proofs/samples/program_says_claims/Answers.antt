use Rattle.std.proofs.Common.{lit<, lit≤}
use Rattle.frame_facts_laws.proofs.SampleChains.{claims_said}
use Rattle.frame_facts_laws.proofs.SampleFacts.{tables}
use Rattle.fact_checks.proofs.samples.program_says_claims.Goals as goal

pub returns-clause-tables : goal.returns-clause-tables
returns-clause-tables c = tables

pub returns-clause-order : goal.returns-clause-order
returns-clause-order c = ((lit≤ tt, lit< tt), ((lit≤ tt, lit< tt), ((lit≤ tt, lit< tt), ((lit≤ tt, lit< tt), tt))))

pub returns-clause-said : goal.returns-clause-said
returns-clause-said c = claims_said
