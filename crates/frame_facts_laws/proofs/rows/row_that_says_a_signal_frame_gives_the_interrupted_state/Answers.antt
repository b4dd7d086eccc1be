use Rattle.frame_facts_laws.proofs.SignalUndone.{interrupted_given}
use Rattle.frame_facts_laws.proofs.rows.row_that_says_a_signal_frame_gives_the_interrupted_state.Goals as goal

pub returns : goal.returns
returns c image frame run s t columns says stands shows general = interrupted_given image frame run s t columns says stands shows general
