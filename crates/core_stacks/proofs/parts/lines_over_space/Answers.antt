use Rattle.std.proofs.Common.{◌∙◌, List, Option, ap}
use Rattle.core_file.specs.MappedParts.{PartValue}
use Rattle.mapped_names.specs.Places.{NamingValue, parts_of}
use Rattle.core_stacks.proofs.PartLines.{lines_named, named_same, walked_named}
use Rattle.core_stacks.proofs.parts.lines_over_space.Goals as goal

pub returns-clause-told : goal.returns-clause-told
returns-clause-told g c = λ all tells.
    let files = ap (λ (v : NamingValue _). v.files) c.in_ok-functions.ensures in
    let parts = ap (λ (v : NamingValue _). v.parts) c.in_ok-functions.ensures in
    let same = parts ∙ ap (λ (named : Option (List PartValue)). parts_of named) c.mapped_parts.ensures in
    let told = named_same all _ _ _ _ _ c.mapped_named_walks_of_threads.result same c.threads-threads.ensures (c.mapped_named_walks_of_threads.ensures.told all (rw files tells)) in
    lines_named c.args.names all _ _ _ c.mapped_named_walks_of_threads.result c.if-not-names.false told

pub returns-clause-walked : goal.returns-clause-walked
returns-clause-walked g c = walked_named c.args.names _ _ _ c.mapped_named_walks_of_threads.result c.if-not-names.false c.threads-threads.ensures c.mapped_named_walks_of_threads.ensures.mapped
