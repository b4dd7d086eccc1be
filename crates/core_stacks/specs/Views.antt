-- What the code holds of what is asked for. No public clause cites this.
use Rattle.core_stacks.specs.declared.asked.Asked.{Asked}
use Rattle.core_stacks.specs.Due.{CoreAsked}

abbrev pub asked_value : Asked → CoreAsked
asked_value a = record { path = a.path.now; names = a.names }
