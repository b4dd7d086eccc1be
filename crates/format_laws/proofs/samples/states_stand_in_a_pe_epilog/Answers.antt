use Rattle.format_laws.proofs.PeListed.{is_function, stand_in_described, caller_fits, computed_before, computed_after}
use Rattle.format_laws.proofs.samples.states_stand_in_a_pe_epilog.Goals as goal

pub returns-clause-function : goal.returns-clause-function
returns-clause-function c = is_function

pub returns-clause-stand : goal.returns-clause-stand
returns-clause-stand c = stand_in_described

pub returns-clause-caller : goal.returns-clause-caller
returns-clause-caller c = caller_fits

pub returns-clause-before : goal.returns-clause-before
returns-clause-before c = computed_before

pub returns-clause-after : goal.returns-clause-after
returns-clause-after c = computed_after
