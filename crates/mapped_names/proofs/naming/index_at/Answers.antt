use Rattle.std.proofs.Common.{◌∙◌, sym}
use Rattle.core_file.specs.MappedViews.{part_of}
use Rattle.mapped_names.specs.Places.{holds_address}
use Rattle.mapped_names.proofs.Lists.{position-map}
use Rattle.mapped_names.proofs.naming.index_at.Goals as goal

pub returns : goal.returns
returns c = c.first_holder.ensures ∙ sym (position-map (holds_address c.args.address) part_of c.args.parts.now)
