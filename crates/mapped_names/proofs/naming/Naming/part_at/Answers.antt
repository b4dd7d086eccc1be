use Rattle.std.proofs.Common.{List, Option, slice_get, ◌∙◌, sym, ap}
use Rattle.std.specs.Option.{option_map}
use Rattle.core_file.specs.declared.mapped.MappedPart.{MappedPart}
use Rattle.core_file.specs.MappedViews.{part_of}
use Rattle.mapped_names.specs.Places.{NamingValue}
use Rattle.mapped_names.proofs.Lists.{slice_get-map}
use Rattle.mapped_names.proofs.naming.Naming.part_at.Goals as goal

pub returns : goal.returns
returns g c =
    ap (λ (o : Option MappedPart). option_map part_of o) (c.get_part.ensures ∙ ap (λ (ps : List MappedPart). slice_get ps c.args.index) c.deref.ensures.value)
    ∙ sym (slice_get-map part_of c.self.inside.parts.items c.args.index) ∙ ap (λ (v : NamingValue _). slice_get v.parts c.args.index) c.self.view_is
