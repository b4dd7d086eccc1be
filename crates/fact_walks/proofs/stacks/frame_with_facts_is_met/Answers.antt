use Rattle.stack_steps.proofs.FactSteps.{asked_at, facts_met}
use Rattle.fact_walks.proofs.stacks.frame_with_facts_is_met.Goals as goal

pub returns : goal.returns
returns k space c interrupted facts s t x arguments apart laid words fits some shows said stands asks = facts_met space c interrupted s t apart laid some (asked_at interrupted s some words.ra) shows facts fits said stands x arguments asks
