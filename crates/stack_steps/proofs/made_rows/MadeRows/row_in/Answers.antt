use Rattle.std.proofs.Common.{◌≡◌, ◌<◌, length, List, Option, Some, None, sym, subst, ◌∙◌, arith}
use Rattle.std.specs.Prelude.{slice_index_or}
use Rattle.std.proofs.lemmas.List.{get_or_default}
use Rattle.stack_steps.specs.declared.made_rows.MadeRow.{MadeRow}
use Rattle.stack_steps.specs.MadeRows.{FindsMade}
use Rattle.stack_steps.proofs.made_rows.MadeRows.row_in.Goals as goal

pub returns-in-Some : goal.returns-in-Some
returns-in-Some c =
    let places = c.self.inside.places.items in
    let all = c.self.invariant in
    let within : c.args.place < length places = omega (arith, c.requires) in
    let there : slice_index_or places c.args.place None ≡ Some c.in-Some.row = get_or_default places c.args.place None c.index.result.now within ∙ sym c.index.ensures ∙ c.in-Some.is in
    subst (λ (l : List (Option MadeRow)). FindsMade l c.args.address c.in-Some.row) c.self.view_is (record { index = c.args.place; within = within; there = there; is_of = c.if-row-address.true })
