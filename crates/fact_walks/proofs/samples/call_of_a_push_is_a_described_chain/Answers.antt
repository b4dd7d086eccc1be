use Rattle.std.proofs.Common.{[], ◌∷◌}
use Rattle.unwind_laws.specs.Pushing as pushing
use Rattle.unwind_laws.proofs.PushingValid.{one_valid}
use Rattle.unwind_laws.proofs.Walk.{valid_described}
use Rattle.fact_walks.proofs.samples.call_of_a_push_is_a_described_chain.Goals as goal

pub returns : goal.returns
returns c = valid_described pushing.process _ _ (pushing.function ∷ []) pushing.start pushing.calls one_valid
