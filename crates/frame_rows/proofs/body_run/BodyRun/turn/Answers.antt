use Rattle.std.proofs.Common.{◌<◌, ap, sym, refl, arith, length}
use Rattle.unwind_definitions.specs.Input.{Input}
use Rattle.encoded_pointers.specs.CursorViews.{at}
use Rattle.frame_rows.specs.InstructionViews.{coding_in, short_meaning}
use Rattle.frame_rows.proofs.Moving.{movable_one, short_relative}
use Rattle.frame_rows.proofs.SliceReading.{read_left}
use Rattle.frame_rows.proofs.Standing.{takes_turn}
use Rattle.frame_rows.proofs.body_run.BodyRun.turn.Goals as goal

pub returns-clause-turns : goal.returns-clause-turns
returns-clause-turns c start m run q rep st left =
    let i = short_meaning c.in_ok-short.short in
    let relative = short_relative c.in_ok-short.short in
    let bytes = ap (λ (i : Input). i.bytes) c.new-input.ensures in
    let passes = c.in_ok-short.ensures.passes in
    let before = ap (λ (i : Input). length i.bytes) c.new-input.ensures in
    let after = ap length c.bytes-rest.ensures in
    let fewer : length c.bytes-rest.result.now < length c.args.self.now.rest.now = omega arith in
    let next = read_left (coding_in c.args.coding) (at c.new-input.result) (at c.read_short.new.input) i c.args.self.now.rest.now c.bytes-rest.result.now q bytes c.in_ok-short.ensures.reads (sym c.bytes-rest.ensures) fewer relative left in
    takes_turn c.args.bodies.now (coding_in c.args.coding) start run q next.later i c.in_ok-turn.turn c.run.new.self _ (c.in_ok-turn.ensures.moves start m run rep st) next.begins next.left refl refl refl (movable_one q next.later i next.begins relative)
