use Rattle.std.proofs.Common.{refl, []}
use Rattle.unwind_definitions.specs.LanguageSearch.{search}
use Rattle.unwind_laws.proofs.ThreeValid.{language_b, language_c, sites_b, sites_c}
use Rattle.unwind_laws.proofs.samples.language_tables_ask.Goals as goal

pub returns-clause-second : goal.returns-clause-second
returns-clause-second c = (sites_b, refl, language_b 0x60 [])

pub returns-clause-third : goal.returns-clause-third
returns-clause-third c = (sites_c, refl, language_c 0x60 [])

pub returns-clause-cleanup : goal.returns-clause-cleanup
unfolding search
returns-clause-cleanup c bases = refl

pub returns-clause-handler : goal.returns-clause-handler
unfolding search
returns-clause-handler c bases = refl

pub returns-clause-unlisted : goal.returns-clause-unlisted
unfolding search
returns-clause-unlisted c bases = refl
