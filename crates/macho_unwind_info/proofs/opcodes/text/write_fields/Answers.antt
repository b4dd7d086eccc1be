use Rattle.std.proofs.Common.{◌≡◌, ◌+◌, ◌-◌, ◌++◌, length, arith, rules}
use Rattle.std.proofs.Output.{has_written_append}
use Rattle.macho_unwind_info.specs.RegisterText.{slot_text_of}
use Rattle.macho_unwind_info.proofs.TextLemmas.{fields_step, one_less}
use Rattle.macho_unwind_info.proofs.opcodes.text.write_fields.Goals as goal

pub loop-field-preserved : goal.loop-field-preserved
loop-field-preserved g c =
    let (room, done, text, wrote) = c.loop-field.invariant in
    let i = c.loop-field.field-index in
    let n = length c.args.fields.now in
    let left : n - i ≡ (n - (i + 1)) + 1 = omega arith in
    let less = one_less c.args.word (n - i) (n - (i + 1)) left in (
      omega arith,
      done ++ slot_text_of g.R.Named.name c.field-item.result c.loop-field.below,
      fields_step g.R.Named.name c.args.word c.loop-field.below c.args.fields.now i c.field-item.result done _ c.loop-field-test.true c.field-item.is text,
      λ plain. has_written_append _ _ _ _ _ _ (wrote plain) (search rules),
    )
