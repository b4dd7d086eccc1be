use Rattle.frame_facts_laws.proofs.FromSteps.{outermost_stands, outermost_says}
use Rattle.frame_facts_laws.proofs.steps.outermost_function_has_facts.Goals as goal

pub returns-clause-stands : goal.returns-clause-stands
returns-clause-stands c image t s entered ends = outermost_stands image t s entered ends

pub returns-clause-says : goal.returns-clause-says
returns-clause-says c run fits = outermost_says run fits
