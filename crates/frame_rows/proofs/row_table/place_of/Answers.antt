use Rattle.frame_rows.proofs.FirstRows.{kept_says, kept_within}
use Rattle.frame_rows.proofs.row_table.place_of.Goals as goal

pub returns-in-Some-clause-within : goal.returns-in-Some-clause-within
returns-in-Some-clause-within c = kept_within c.args.bodies.now c.args.rows.now c.args.index c.in-Some.kept.now c.in-Some.ensures c.requires

pub returns-in-Some-clause-says : goal.returns-in-Some-clause-says
returns-in-Some-clause-says c at = kept_says c.args.bodies.now c.args.rows.now c.args.index c.in-Some.kept.now c.in-Some.ensures c.args.row c.requires at
