use Rattle.table_check.proofs.OneNoted.{language_decides, some_noted}
use Rattle.table_check.proofs.marks.has_language.Goals as goal

pub returns-in-Some : goal.returns-in-Some
returns-in-Some c image bases fdes apart marked some = language_decides image bases fdes apart c.args.claim.now marked c.in-Some.described c.in-Some.is

pub returns-in-None : goal.returns-in-None
returns-in-None c image bases fdes apart marked some = absurd (some_noted image bases fdes apart c.args.claim.now marked some c.in-None.is)
