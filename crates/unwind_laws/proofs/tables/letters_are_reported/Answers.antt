use Rattle.unwind_laws.proofs.Letters.{personality_said, language_said, address_said, signal_said}
use Rattle.unwind_laws.proofs.tables.letters_are_reported.Goals as goal

pub returns-clause-personality : goal.returns-clause-personality
returns-clause-personality c bases z ls i d found e = personality_said bases z ls i d found e

pub returns-clause-language : goal.returns-clause-language
returns-clause-language c bases z ls i d found e = language_said bases z ls i d found e

pub returns-clause-address : goal.returns-clause-address
returns-clause-address c bases z ls i d found e = address_said bases z ls i d found e

pub returns-clause-signal : goal.returns-clause-signal
returns-clause-signal c bases z ls i d found e = signal_said bases z ls i d found e
