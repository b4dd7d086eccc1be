use Rattle.frame_facts_laws.proofs.FromSteps.{inside_stands, inside_says}
use Rattle.frame_facts_laws.proofs.steps.prologue_has_facts.Goals as goal

pub returns-clause-stands : goal.returns-clause-stands
returns-clause-stands c image steps t s may entered intact = inside_stands image steps t s may entered intact

pub returns-clause-says : goal.returns-clause-says
returns-clause-says c steps run fits = inside_says steps run fits
