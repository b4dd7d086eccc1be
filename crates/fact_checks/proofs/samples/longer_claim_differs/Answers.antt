use Rattle.fact_checks.proofs.SampleDiffers.{longer_differs}
use Rattle.fact_checks.proofs.samples.longer_claim_differs.Goals as goal

pub returns-clause-differs : goal.returns-clause-differs
returns-clause-differs c = longer_differs
