use Rattle.unwind_definitions.specs.Instructions.{Coding}
use Rattle.frame_rows.specs.InstructionViews.{coding_in}
use Rattle.frame_rows.specs.Stretches.{left_of}
use Rattle.frame_rows.proofs.Walking.{faults, stops_or_leads}
use Rattle.frame_rows.proofs.row_walk.RowWalk.run.Goals as goal

pub returns-in-Ok : goal.returns-in-Ok
returns-in-Ok c start run due rep left =
    let coding : Coding = coding_in c.args.coding in
    stops_or_leads start run (left_of coding c.args.self.now.instructions) due left c.run_stretch.new.machine c.run_stretch.new.instructions coding c.in-Ok.end (c.in-Ok.ensures.ends start run rep)

pub returns-in-Err : goal.returns-in-Err
returns-in-Err c start run due rep left =
    let coding : Coding = coding_in c.args.coding in
    faults start run (left_of coding c.args.self.now.instructions) due left c.run_stretch.new.machine c.run_stretch.new.instructions coding c.in-Err.error (c.in-Err.ensures.ends start run rep)
