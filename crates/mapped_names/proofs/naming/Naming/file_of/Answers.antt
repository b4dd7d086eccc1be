use Rattle.std.proofs.Common.{ap}
use Rattle.core_file.specs.MappedViews.{part_of}
use Rattle.mapped_names.specs.Places.{NamingValue}
use Rattle.mapped_names.proofs.Files.{file_at}
use Rattle.mapped_names.proofs.naming.Naming.file_of.Goals as goal

pub returns-clause-told : goal.returns-clause-told
returns-clause-told g c = λ all tells.
    file_at all c.args.self.now.parts c.args.index (part_of c.args.part.now) c.read_file.result c.requires (c.read_file.ensures.told all (rw (ap (λ (v : NamingValue _). v.files) c.self.view_is) tells))
