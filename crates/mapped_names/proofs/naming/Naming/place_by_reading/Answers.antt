use Rattle.core_file.specs.MappedViews.{part_of}
use Rattle.mapped_names.proofs.Files.{named_at}
use Rattle.mapped_names.proofs.naming.Naming.place_by_reading.Goals as goal

pub returns-clause-told : goal.returns-clause-told
returns-clause-told g c = λ all tells.
    c.in_ok-place.ensures (all c.args.part.now.path.now) (named_at all c.args.self.now.parts c.args.index (part_of c.args.part.now) c.in_ok-file.file c.requires (c.in_ok-file.ensures.told all tells))
