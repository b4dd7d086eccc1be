use Rattle.std.proofs.Common.{◌≡◌, ◌+◌, ◌-◌, ◌++◌, length, arith, rules, sym, ◌∙◌}
use Rattle.std.proofs.Output.{has_written_append}
use Rattle.macho_unwind_info.specs.RegisterText.{slot_text_of}
use Rattle.macho_unwind_info.proofs.TextLemmas.{registers_step, registers_pass, one_less}
use Rattle.macho_unwind_info.proofs.opcodes.text.write_registers.Goals as goal
use Rattle.macho_unwind_info.proofs.opcodes.text.write_registers.Goals.{then-is_some+in_ok-write_slot, else-is_some}

pub loop-register-preserved : goal.loop-register-preserved
loop-register-preserved g c =
    let (room, done, text, wrote) = c.loop-register.invariant in
    let i = c.loop-register.register-index in
    let n = length c.args.registers.now in
    let left : n - i ≡ (n - (i + 1)) + 1 = omega arith in
    let less = one_less c.args.word (n - i) (n - (i + 1)) left in
    let x = c.register-item.result in
    let here = c.loop-register-test.true in
    elim c.if-is_some.branch [
      | then-is_some+in_ok-write_slot w ↦ (
        rw w.below-is (omega arith),
        done ++ slot_text_of g.R.Named.name x c.loop-register.below,
        rw w.below-is (registers_step g.R.Named.name c.args.word c.loop-register.below c.args.registers.now i x done _ (sym c.is_some.ensures ∙ w.if-is_some.true) here c.register-item.is text),
        λ plain. rw w.f-is (has_written_append _ _ _ _ _ _ (wrote plain) (search rules)),
      )
      | else-is_some w ↦ (
        rw w.below-is (omega arith),
        done,
        rw w.below-is (registers_pass g.R.Named.name c.args.word c.loop-register.below c.args.registers.now i x done _ (sym c.is_some.ensures ∙ w.if-is_some.false) here c.register-item.is text),
        λ plain. rw w.f-is (wrote plain),
      )
    ]
