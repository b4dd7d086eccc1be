use Rattle.core_file.specs.MappedViews.{part_of}
use Rattle.mapped_names.proofs.Files.{named_at}
use Rattle.mapped_names.proofs.naming.Naming.place_in_part.Goals as goal

pub returns-in_ok-place_in-in-Some-clause-told : goal.returns-in_ok-place_in-in-Some-clause-told
returns-in_ok-place_in-in-Some-clause-told g c = λ all tells.
    c.in_ok-place_in-in-Some.ensures (all c.args.part.now.path.now) (named_at all c.args.self.now.parts c.args.index (part_of c.args.part.now) c.in-Some.file.now c.requires (c.in-Some.ensures all tells))
