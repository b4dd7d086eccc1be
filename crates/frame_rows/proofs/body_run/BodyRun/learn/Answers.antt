use Rattle.std.proofs.Common.{◌≡◌, ◌<◌, true, ap, sym, arith, length}
use Rattle.unwind_definitions.specs.Input.{Input}
use Rattle.unwind_definitions.specs.Instructions.{CfaOffset, Offset, Write}
use Rattle.encoded_pointers.specs.CursorViews.{at}
use Rattle.frame_rows.specs.BodySteps.{MakesBody}
use Rattle.frame_rows.specs.InstructionViews.{coding_in}
use Rattle.frame_rows.proofs.Learning.{learned}
use Rattle.frame_rows.proofs.SliceReading.{read_left}
use Rattle.frame_rows.proofs.Standing.{stands_offset, stands_save}
use Rattle.frame_rows.proofs.body_run.BodyRun.learn.Goals as goal

pub returns-in_ok-made-in-Some-Save-clause-turns : goal.returns-in_ok-made-in-Some-Save-clause-turns
returns-in_ok-made-in-Some-Save-clause-turns c is start m run q rep st initial left =
    let i = Write c.in-Some-Save.register.0 (Offset c.in-Some-Save.offset) in
    let reads = rw c.in-Some-Save.field-0-is at c.in-Some-Save.ensures.reads in
    let bytes = ap (λ (i : Input). i.bytes) c.new-input.ensures in
    let before = ap (λ (i : Input). length i.bytes) c.new-input.ensures in
    let after = ap length c.bytes.ensures in
    let passes = c.in-Some-Save.ensures.passes in
    let fewer : length c.bytes.result.now < length c.args.self.now.rest.now = omega arith in
    let next = read_left (coding_in c.args.coding) (at c.new-input.result) (at c.read_short.new.input) i c.args.self.now.rest.now c.bytes.result.now q bytes reads (sym c.bytes.ensures) fewer tt left in
    let so : c.move_to.result ≡ true = cc in
    learned c.make_save.new.self (coding_in c.args.coding) start run q c.args.self.now c.move_to.new.self i (MakesBody c.make_save.new.self i c.args.self.now.place) c.in_ok-made-in-Some-Save.made c.move_to.result c.bytes.result.now so c.in_ok-made-in-Some-Save.ensures.makes c.move_to.ensures.moves c.move_to.ensures.stays
    c.move_to.ensures.location c.move_to.ensures.remembered (stands_save c.make_save.new.self start m run rep c.args.self.now st c.in-Some-Save.register.0 (Offset c.in-Some-Save.offset)) next tt

pub returns-in_ok-made-in-Some-DefineCfaOffset-clause-turns : goal.returns-in_ok-made-in-Some-DefineCfaOffset-clause-turns
returns-in_ok-made-in-Some-DefineCfaOffset-clause-turns c is start m run q rep st initial left =
    let i = CfaOffset c.in-Some-DefineCfaOffset.offset in
    let reads = rw c.in-Some-DefineCfaOffset.field-0-is at c.in-Some-DefineCfaOffset.ensures.reads in
    let bytes = ap (λ (i : Input). i.bytes) c.new-input.ensures in
    let before = ap (λ (i : Input). length i.bytes) c.new-input.ensures in
    let after = ap length c.bytes-in-Some-DefineCfaOffset.ensures in
    let passes = c.in-Some-DefineCfaOffset.ensures.passes in
    let fewer : length c.bytes-in-Some-DefineCfaOffset.result.now < length c.args.self.now.rest.now = omega arith in
    let next = read_left (coding_in c.args.coding) (at c.new-input.result) (at c.read_short.new.input) i c.args.self.now.rest.now c.bytes-in-Some-DefineCfaOffset.result.now q bytes reads (sym c.bytes-in-Some-DefineCfaOffset.ensures) fewer tt left in
    let so : c.move_to-in-Some-DefineCfaOffset.result ≡ true = cc in
    learned c.make_offset.new.self (coding_in c.args.coding) start run q c.args.self.now c.move_to-in-Some-DefineCfaOffset.new.self i (MakesBody c.make_offset.new.self i c.args.self.now.place) c.in_ok-made-in-Some-DefineCfaOffset.made c.move_to-in-Some-DefineCfaOffset.result c.bytes-in-Some-DefineCfaOffset.result.now so c.in_ok-made-in-Some-DefineCfaOffset.ensures.makes c.move_to-in-Some-DefineCfaOffset.ensures.moves c.move_to-in-Some-DefineCfaOffset.ensures.stays
    c.move_to-in-Some-DefineCfaOffset.ensures.location c.move_to-in-Some-DefineCfaOffset.ensures.remembered (stands_offset c.make_offset.new.self start m run rep c.args.self.now st c.in-Some-DefineCfaOffset.offset) next tt
