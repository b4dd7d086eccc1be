use Rattle.std.proofs.Common.{sym}
use Rattle.core_file.specs.MappedViews.{part_of}
use Rattle.mapped_names.proofs.Files.{placed}
use Rattle.mapped_names.proofs.naming.Naming.place_at_index.Goals as goal

pub returns-in-Some-clause-told : goal.returns-in-Some-clause-told
returns-in-Some-clause-told g c = λ all tells.
    placed all c.args.self.now.parts c.args.address c.args.index (part_of c.in-Some.part) c.place_in_part.result (sym c.in-Some.ensures) (c.place_in_part.ensures.told all tells)
