use Rattle.std.proofs.Common.{◌≡◌, ◌<◌, ◌∙◌, Ok, Result, true, ap, sym, arith, length}
use Rattle.unwind_definitions.specs.declared.error.Error.{Error as Fault}
use Rattle.unwind_definitions.specs.Input.{Input}
use Rattle.unwind_definitions.specs.Instructions.{Cfa, CfaColumn, Instruction, Reset}
use Rattle.encoded_pointers.specs.CursorViews.{at}
use Rattle.frame_rows.specs.BodySteps.{MakesBody, RestoresBody}
use Rattle.frame_rows.specs.InstructionViews.{coding_in, meaning}
use Rattle.frame_rows.specs.declared.instruction.CallFrameInstruction.{CallFrameInstruction}
use Rattle.frame_rows.proofs.Learning.{learned}
use Rattle.frame_rows.proofs.SliceReading.{read_left}
use Rattle.frame_rows.proofs.Standing.{stands_cfa, stands_column, stands_reset}
use Rattle.frame_rows.proofs.body_run.BodyRun.run_other.Goals as goal

pub returns-in_ok-made-in-Ok-DefineCfa-clause-turns : goal.returns-in_ok-made-in-Ok-DefineCfa-clause-turns
returns-in_ok-made-in-Ok-DefineCfa-clause-turns c is start m run q rep st initial left =
    let i = Cfa c.in-Ok-DefineCfa.register.0 c.in-Ok-DefineCfa.offset in
    let reads = (rw c.in-Ok-DefineCfa.is at c.read_instruction-read.ensures) ∙ ap (λ (f : CallFrameInstruction). let r : Result (Instruction × Input) Fault = Ok (meaning f, at c.read_instruction-read.new.input) in r) (rw c.in-Ok-DefineCfa.is at c.in-Ok-DefineCfa.field-0-is) in
    let bytes = ap (λ (i : Input). i.bytes) c.new-input.ensures in
    let before = ap (λ (i : Input). length i.bytes) c.new-input.ensures in
    let after = ap length c.bytes-rest.ensures in
    let less = c.if-rest-self.false in
    let fewer : length c.bytes-rest.result.now < length c.args.self.now.rest.now = omega arith in
    let next = read_left (coding_in c.args.coding) (at c.new-input.result) (at c.read_instruction-read.new.input) i c.args.self.now.rest.now c.bytes-rest.result.now q bytes reads (sym c.bytes-rest.ensures) fewer tt left in
    let so : c.move_to.result ≡ true = cc in
    learned c.make_cfa.new.self (coding_in c.args.coding) start run q c.args.self.now c.move_to.new.self i (MakesBody c.make_cfa.new.self i c.args.self.now.place) c.in_ok-made-in-Ok-DefineCfa.made c.move_to.result c.bytes-rest.result.now so c.in_ok-made-in-Ok-DefineCfa.ensures.makes c.move_to.ensures.moves c.move_to.ensures.stays
    c.move_to.ensures.location c.move_to.ensures.remembered (stands_cfa c.make_cfa.new.self start m run rep c.args.self.now st c.in-Ok-DefineCfa.register.0 c.in-Ok-DefineCfa.offset) next tt

pub returns-in_ok-made-in-Ok-DefineCfaRegister-clause-turns : goal.returns-in_ok-made-in-Ok-DefineCfaRegister-clause-turns
returns-in_ok-made-in-Ok-DefineCfaRegister-clause-turns c is start m run q rep st initial left =
    let i = CfaColumn c.in-Ok-DefineCfaRegister.register.0 in
    let reads = (rw c.in-Ok-DefineCfaRegister.is at c.read_instruction-read.ensures) ∙ ap (λ (f : CallFrameInstruction). let r : Result (Instruction × Input) Fault = Ok (meaning f, at c.read_instruction-read.new.input) in r) (rw c.in-Ok-DefineCfaRegister.is at c.in-Ok-DefineCfaRegister.field-0-is) in
    let bytes = ap (λ (i : Input). i.bytes) c.new-input.ensures in
    let before = ap (λ (i : Input). length i.bytes) c.new-input.ensures in
    let after = ap length c.bytes-rest.ensures in
    let less = c.if-rest-self.false in
    let fewer : length c.bytes-rest.result.now < length c.args.self.now.rest.now = omega arith in
    let next = read_left (coding_in c.args.coding) (at c.new-input.result) (at c.read_instruction-read.new.input) i c.args.self.now.rest.now c.bytes-rest.result.now q bytes reads (sym c.bytes-rest.ensures) fewer tt left in
    let so : c.move_to-in-Ok-DefineCfaRegister.result ≡ true = cc in
    learned c.make_cfa_register.new.self (coding_in c.args.coding) start run q c.args.self.now c.move_to-in-Ok-DefineCfaRegister.new.self i (MakesBody c.make_cfa_register.new.self i c.args.self.now.place) c.in_ok-made-in-Ok-DefineCfaRegister.made c.move_to-in-Ok-DefineCfaRegister.result c.bytes-rest.result.now so c.in_ok-made-in-Ok-DefineCfaRegister.ensures.makes c.move_to-in-Ok-DefineCfaRegister.ensures.moves c.move_to-in-Ok-DefineCfaRegister.ensures.stays
    c.move_to-in-Ok-DefineCfaRegister.ensures.location c.move_to-in-Ok-DefineCfaRegister.ensures.remembered (stands_column c.make_cfa_register.new.self start m run rep c.args.self.now st c.in-Ok-DefineCfaRegister.register.0) next tt

pub returns-in_ok-made-in-Ok-RestoreInitialRule-clause-turns : goal.returns-in_ok-made-in-Ok-RestoreInitialRule-clause-turns
returns-in_ok-made-in-Ok-RestoreInitialRule-clause-turns c is start m run q rep st initial left =
    let i = Reset c.in-Ok-RestoreInitialRule.register.0 in
    let reads = (rw c.in-Ok-RestoreInitialRule.is at c.read_instruction-read.ensures) ∙ ap (λ (f : CallFrameInstruction). let r : Result (Instruction × Input) Fault = Ok (meaning f, at c.read_instruction-read.new.input) in r) (rw c.in-Ok-RestoreInitialRule.is at c.in-Ok-RestoreInitialRule.field-0-is) in
    let bytes = ap (λ (i : Input). i.bytes) c.new-input.ensures in
    let before = ap (λ (i : Input). length i.bytes) c.new-input.ensures in
    let after = ap length c.bytes-rest.ensures in
    let less = c.if-rest-self.false in
    let fewer : length c.bytes-rest.result.now < length c.args.self.now.rest.now = omega arith in
    let next = read_left (coding_in c.args.coding) (at c.new-input.result) (at c.read_instruction-read.new.input) i c.args.self.now.rest.now c.bytes-rest.result.now q bytes reads (sym c.bytes-rest.ensures) fewer tt left in
    let so : c.move_to-in-Ok-RestoreInitialRule.result ≡ true = cc in
    learned c.make_restore.new.self (coding_in c.args.coding) start run q c.args.self.now c.move_to-in-Ok-RestoreInitialRule.new.self i (RestoresBody c.make_restore.new.self c.in-Ok-RestoreInitialRule.register.0 c.args.self.now.first c.args.self.now.place) c.in_ok-made-in-Ok-RestoreInitialRule.made c.move_to-in-Ok-RestoreInitialRule.result c.bytes-rest.result.now so c.in_ok-made-in-Ok-RestoreInitialRule.ensures.makes c.move_to-in-Ok-RestoreInitialRule.ensures.moves c.move_to-in-Ok-RestoreInitialRule.ensures.stays
    c.move_to-in-Ok-RestoreInitialRule.ensures.location c.move_to-in-Ok-RestoreInitialRule.ensures.remembered (stands_reset c.make_restore.new.self start m run rep c.args.self.now st c.in-Ok-RestoreInitialRule.register.0 initial) next tt
