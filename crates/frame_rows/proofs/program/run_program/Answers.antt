use Rattle.std.proofs.Common.{◌≡◌, ℕ, ◌-◌, ◌+◌, suc, true, false, length, arith, sym, ap, ◌∙◌}
use Rattle.std.proofs.lemmas.Result.{err_from_is_err_and}
use Rattle.unwind_definitions.specs.Input.{Input}
use Rattle.unwind_definitions.specs.Instructions.{Coding, program, program_from}
use Rattle.unwind_definitions.specs.Row.{RowInstructions, location}
use Rattle.std.specs.Prelude.{Option}
use Rattle.encoded_pointers.specs.CursorViews.{at}
use Rattle.frame_rows.specs.InstructionViews.{coding_in, meaning}
use Rattle.frame_rows.specs.Running.{stops, push, outcome}
use Rattle.frame_rows.proofs.Reading.{at_end, at_empty, at_fault, at_stop, at_bad, at_next}
use Rattle.frame_rows.proofs.program.run_program.Goals as goal

-- what the whole program gives, by what is left
from_left : (start : ℕ) (pc : Option ℕ) (run now : RowInstructions) (coding : Coding) (bytes input : Input) (n k : ℕ) → n ≡ length bytes.bytes →
    outcome start pc now (program_from k coding input) ≡ outcome start pc run (program_from n coding bytes) →
    outcome start pc run (program coding bytes) ≡ outcome start pc now (program_from k coding input)
from_left start pc run now coding bytes input n k len same = ap (λ n. outcome start pc run (program_from n coding bytes)) (sym len) ∙ sym same

pub returns : goal.returns
returns c start run rep =
    let now = c.loop-turn.invariant start run rep in
    let coding : Coding = coding_in c.args.coding in
    let n = c.len-turn-end.result in
    let none : n - c.loop-turn._turn ≡ 0 = omega arith in (
      now.0,
      from_left start c.args.pc run now.0 coding (at c.args.bytes) (at c.loop-turn.input) n _ c.len-turn-end.ensures now.2
          ∙ at_end start c.args.pc coding now.0 (at c.loop-turn.input) _ none,
      now.1,
    )

pub returns-then-is_empty : goal.returns-then-is_empty
returns-then-is_empty c start run rep =
    let now = c.loop-turn.invariant start run rep in
    let coding : Coding = coding_in c.args.coding in
    let n = c.len-turn-end.result in
    let more : n - c.loop-turn._turn ≡ suc (n - (c.loop-turn._turn + 1)) = omega arith in (
      now.0,
      from_left start c.args.pc run now.0 coding (at c.args.bytes) (at c.loop-turn.input) n _ c.len-turn-end.ensures now.2
          ∙ at_empty start c.args.pc coding now.0 (at c.loop-turn.input) _ _ more (sym c.if-is_empty.ensures),
      now.1,
    )

pub returns-then-stops_before : goal.returns-then-stops_before
returns-then-stops_before c start run rep =
    let now = c.loop-turn.invariant start run rep in
    let coding : Coding = coding_in c.args.coding in
    let n = c.len-turn-end.result in
    let more : n - c.loop-turn._turn ≡ suc (n - (c.loop-turn._turn + 1)) = omega arith in
    let i = meaning c.in_ok-instruction.instruction in
    let stop : stops (location start now.0.own) c.args.pc i ≡ true = ap (λ a. stops a c.args.pc i) (sym now.1.here) ∙ sym c.if-stops_before.ensures in (
      now.0,
      from_left start c.args.pc run now.0 coding (at c.args.bytes) (at c.loop-turn.input) n _ c.len-turn-end.ensures now.2
          ∙ at_stop start c.args.pc coding now.0 (at c.loop-turn.input) _ _ i (at c.read_instruction.new.input) more (sym c.if-is_empty.ensures) c.in_ok-instruction.ensures stop,
      now.1,
    )

pub returns-in_err-instruction : goal.returns-in_err-instruction
returns-in_err-instruction c start run rep =
    let now = c.loop-turn.invariant start run rep in
    let coding : Coding = coding_in c.args.coding in
    let n = c.len-turn-end.result in
    let more : n - c.loop-turn._turn ≡ suc (n - (c.loop-turn._turn + 1)) = omega arith in
    let p = err_from_is_err_and c.from_residual.result c.from_residual.ensures.1 in
    rw (p.1, p.2) (from_left start c.args.pc run now.0 coding (at c.args.bytes) (at c.loop-turn.input) n _ c.len-turn-end.ensures now.2
    ∙ at_fault start c.args.pc coding now.0 (at c.loop-turn.input) _ _ c.in_err-instruction.field-0.0 more (sym c.if-is_empty.ensures) c.in_err-instruction.ensures)

pub returns-in_err-run : goal.returns-in_err-run
returns-in_err-run c start run rep =
    let now = c.loop-turn.invariant start run rep in
    let coding : Coding = coding_in c.args.coding in
    let n = c.len-turn-end.result in
    let more : n - c.loop-turn._turn ≡ suc (n - (c.loop-turn._turn + 1)) = omega arith in
    let i = meaning c.in_ok-instruction.instruction in
    let stop : stops (location start now.0.own) c.args.pc i ≡ false = ap (λ a. stops a c.args.pc i) (sym now.1.here) ∙ sym c.if-stops_before.ensures in
    let p = err_from_is_err_and c.from_residual-in_err-run.result c.from_residual-in_err-run.ensures.1 in
    rw (p.1, p.2) (from_left start c.args.pc run now.0 coding (at c.args.bytes) (at c.loop-turn.input) n _ c.len-turn-end.ensures now.2
    ∙ at_bad start c.args.pc coding now.0 (at c.loop-turn.input) _ _ i (at c.read_instruction.new.input) c.in_err-run.field-0.0 more (sym c.if-is_empty.ensures) c.in_ok-instruction.ensures stop
    (c.in_err-run.ensures.follows start now.0 now.1))

pub loop-turn-preserved : goal.loop-turn-preserved
loop-turn-preserved c start run rep =
    let now = c.loop-turn.invariant start run rep in
    let coding : Coding = coding_in c.args.coding in
    let n = c.len-turn-end.result in
    let more : n - c.loop-turn._turn ≡ suc (n - (c.loop-turn._turn + 1)) = omega arith in
    let i = meaning c.in_ok-instruction.instruction in
    let stop : stops (location start now.0.own) c.args.pc i ≡ false = ap (λ a. stops a c.args.pc i) (sym now.1.here) ∙ sym c.if-stops_before.ensures in
    let follows = c.in_ok-run.ensures.follows start now.0 now.1 in (
      push now.0 i,
      follows.1,
      sym (at_next start c.args.pc coding now.0 (at c.loop-turn.input) _ _ i (at c.read_instruction.new.input) more (sym c.if-is_empty.ensures) c.in_ok-instruction.ensures stop follows.0)
          ∙ now.2,
    )
