use Rattle.std.proofs.Common.{List, Some, Result, sym, subst}
use Rattle.unwind_definitions.specs.declared.error.Error.{Error as Fault}
use Rattle.frame_rows.specs.RowValue.{RowValue}
use Rattle.frame_rows.specs.SameRules.{IsBodyWith}
use Rattle.frame_rows.proofs.SameRows.{grown_like}
use Rattle.frame_rows.proofs.row_bodies.RowBodies.add_like.Goals as goal

pub returns-clause-added : goal.returns-clause-added
returns-clause-added c rules w =
    let bodies = c.in_ok-push.ensures.items in
    let with = subst (λ (l : List (Result RowValue Fault)). IsBodyWith l (Some c.args.place) rules) (sym c.self.view_is) w in
    rw (bodies, sym c.self.view_is)
    (grown_like c.self.inside.rules.items c.self.inside.bodies.items c.args.place c.index.result.now c.args.cfa c.args.saved_args_size rules c.index.ensures with)
