use Rattle.std.proofs.Common.{◌≡◌, Ok, Result, sym, ap, get_or, ◌∙◌, length}
use Rattle.std.proofs.lemmas.List.{length-map}
use Rattle.unwind_definitions.specs.declared.error.Error.{Error as Fault}
use Rattle.frame_rows.specs.Bodies.{body_in}
use Rattle.frame_rows.specs.RowValue.{RowValue}
use Rattle.frame_rows.proofs.OtherCfa.{grows_by, rules_there, says_last}
use Rattle.frame_rows.proofs.row_bodies.RowBodies.with_cfa.Goals as goal

pub returns-in_err-note-clause-grows : goal.returns-in_err-note-clause-grows
returns-in_err-note-clause-grows c =
    let like = rules_there c.args.self.now c.args.place c.in-Ok.row c.requires (λ d. sym (c.get.ensures d) ∙ c.in-Ok.is) in
    grows_by c.args.self.now c.add_like.new.self _ (c.in_ok-add_like.ensures.added c.in-Ok.row.rules like)

pub returns-clause-grows : goal.returns-clause-grows
returns-clause-grows c =
    let like = rules_there c.args.self.now c.args.place c.in-Ok.row c.requires (λ d. sym (c.get.ensures d) ∙ c.in-Ok.is) in
    grows_by c.args.self.now c.add_like.new.self _ (c.in_ok-add_like.ensures.added c.in-Ok.row.rules like)

pub returns-clause-says : goal.returns-clause-says
returns-clause-says c =
    let was : (d : Result RowValue Fault) → get_or c.args.self.now c.args.place d ≡ Ok c.in-Ok.row = λ d. sym (c.get.ensures d) ∙ c.in-Ok.is in
    let like = rules_there c.args.self.now c.args.place c.in-Ok.row c.requires was in
    let last = c.len-added.ensures ∙ c.self.inside.bodies.ok.0 ∙ sym (length-map c.self.inside.bodies.items (body_in c.self.inside.rules.items)) ∙ ap length c.self.view_is in
    let says = says_last c.args.self.now c.add_like.new.self c.len-added.result _ last (c.in_ok-add_like.ensures.added c.in-Ok.row.rules like) in
    record { row = c.in-Ok.row; within = c.requires; was = was; says = rw c.saved_args_size-size.ensures at says }
