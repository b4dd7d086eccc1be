use Rattle.std.proofs.Common.{refl}
use Rattle.unwind_definitions.specs.LanguageSearch as tables
use Rattle.delivery_laws.proofs.personality.a_handler_is_asked_for.Goals as goal

pub returns-clause-asked : goal.returns-clause-asked
unfolding tables.search
returns-clause-asked c = record { routine = 0x3000; named = refl; asks = refl }
