use Rattle.std.proofs.lemmas.Result.{err_from_is_err_and}
use Rattle.unwind_definitions.specs.Instructions.{Program, Coding, program}
use Rattle.unwind_definitions.specs.Row.{from_common}
use Rattle.encoded_pointers.specs.CursorViews.{at}
use Rattle.frame_rows.specs.InstructionViews.{coding_in}
use Rattle.frame_rows.proofs.Together.{common_stops, ran_both}
use Rattle.frame_rows.proofs.program.run_programs.Goals as goal

pub returns-in_err-begin_own : goal.returns-in_err-begin_own
returns-in_err-begin_own c =
    let coding : Coding = coding_in c.args.coding in
    let p = err_from_is_err_and c.from_residual.result c.from_residual.ensures.1 in
    rw (p.1, p.2) (common_stops c.args.start c.args.pc (program coding (at c.args.common)) (program coding (at c.args.own)) c.in_err-begin_own.field-0.0 c.in_err-begin_own.ensures)

pub returns : goal.returns
returns c =
    let coding : Coding = coding_in c.args.coding in
    let common : Program = program coding (at c.args.common) in
    let own : Program = program coding (at c.args.own) in
    let first = c.in_ok-begin_own.ensures in
    ran_both c.args.start c.args.pc common own first.0 c.run_program.result c.run_program.new.machine first.1 (c.run_program.ensures c.args.start (from_common common.instructions) first.2)
