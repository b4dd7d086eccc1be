use Rattle.core_parts.proofs.PartWalks.{walk_by_parts}
use Rattle.core_parts.proofs.laws.walks_over_parts_are_those_over_all.Goals as goal

pub returns : goal.returns
returns c = walk_by_parts
