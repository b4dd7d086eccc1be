use Rattle.std.proofs.Common.{sym}
use Rattle.mapped_names.proofs.Files.{at_first}
use Rattle.mapped_names.proofs.naming.Naming.place_at.Goals as goal

pub returns-in-Some-clause-told : goal.returns-in-Some-clause-told
returns-in-Some-clause-told g c = λ all tells.
    at_first all c.args.self.now.parts c.args.address c.in-Some.index c.place_at_index.result (sym c.in-Some.ensures) (c.place_at_index.ensures.told all tells)
