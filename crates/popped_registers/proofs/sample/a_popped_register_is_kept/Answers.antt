use Rattle.popped_registers.proofs.SampleStack.{sample_known}
use Rattle.popped_registers.proofs.SampleWalks.{sample_cut, sample_ends, sample_popped, sample_states}
use Rattle.popped_registers.proofs.sample.a_popped_register_is_kept.Goals as goal

pub returns-clause-popped : goal.returns-clause-popped
returns-clause-popped c = sample_popped

pub returns-clause-cut : goal.returns-clause-cut
returns-clause-cut c = sample_cut

pub returns-clause-states : goal.returns-clause-states
returns-clause-states c = sample_states

pub returns-clause-end : goal.returns-clause-end
returns-clause-end c = sample_ends

pub returns-clause-known : goal.returns-clause-known
returns-clause-known c = sample_known
