use Rattle.std.proofs.Common.{codes, refl, ap, ◌∙◌}
use Rattle.std.specs.Option.{option_and_then}
use Rattle.serde_json.specs.Find.{as_array}
use Rattle.stack_snapshot.proofs.Members.{member_at, member_left}
use Rattle.stack_snapshot.proofs.reading.lists_of.Goals as goal

pub returns-in-Object-clause-regions : goal.returns-in-Object-clause-regions
returns-in-Object-clause-regions c =
    c.items_of.ensures ∙ ap (option_and_then as_array) (member_at (codes "regions") _ _ _ c.in-Object.is c.remove.ensures.value)

pub returns-in-Object-clause-modules : goal.returns-in-Object-clause-modules
returns-in-Object-clause-modules c =
    c.items_of-in-Object.ensures ∙ ap (option_and_then as_array)
    (member_left (codes "modules") (codes "regions") _ c.in-Object.members c.remove.new.self _ c.in-Object.is c.remove.ensures.updates refl c.remove-in-Object.ensures.value)
