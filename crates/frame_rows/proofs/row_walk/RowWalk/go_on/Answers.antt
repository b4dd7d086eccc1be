use Rattle.std.proofs.Common.{◌≡◌, ◌∙◌, Some, sym, subst}
use Rattle.unwind_definitions.specs.Instructions.{Coding}
use Rattle.frame_rows.specs.InstructionViews.{coding_in}
use Rattle.frame_rows.specs.Running.{push}
use Rattle.frame_rows.specs.Walks.{IsWalking}
use Rattle.frame_rows.proofs.StretchSteps.{location_pushed}
use Rattle.frame_rows.proofs.row_walk.RowWalk.go_on.Goals as goal

pub returns-in-Some : goal.returns-in-Some
returns-in-Some c from end due walking is =
    let coding : Coding = coding_in c.args.coding in
    let to = rw c.in-Some.is at walking.goes_on in
    let both : Some c.in-Some.end ≡ Some end = sym c.in-Some.is ∙ is in
    let same : c.in-Some.end ≡ end = cc in
    let there = location_pushed to.start to.run to.by ∙ to.leads in
    subst (λ n. IsWalking c.run.new.self coding n due) (there ∙ same) (c.run.ensures to.start (push to.run to.by) due (c.go_on.ensures.follows to.start to.run to.by to.represents to.leads to.stands) to.left)
