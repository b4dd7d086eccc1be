use Rattle.frame_facts_laws.proofs.FromSteps.{body_stands, body_says}
use Rattle.frame_facts_laws.proofs.steps.body_has_facts.Goals as goal

pub returns-clause-stands : goal.returns-clause-stands
returns-clause-stands c image steps t s may entered = body_stands image steps t s may entered

pub returns-clause-says : goal.returns-clause-says
returns-clause-says c steps run fits = body_says steps run fits
