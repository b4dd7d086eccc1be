use Rattle.std.proofs.Common.{ap, ◌∙◌}
use Rattle.frame_rows.specs.Rules.{rule_in}
use Rattle.popped_registers.specs.PoppedRegisters.{image_with}
use Rattle.popped_registers.proofs.KeptLemmas.{among_more, kept_one, refused_with, taken_with}
use Rattle.popped_registers.proofs.walks.+walk_with.Goals as goal

pub returns-in-Ok-clause-walk : goal.returns-in-Ok-clause-walk
returns-in-Ok-clause-walk t c =
    let f = c.args.frame.now in
    let p = c.in-Some.popped in
    let more = among_more f.image.now f.context.now (rule_in f.row.now.rules) f.cfa c.args.registers.now p _ _ c.in-len1-up.len_at_least c.popped_by.ensures c.rule_of-rule.ensures c.in-Some.is in
    let grows = taken_with c.args.image.now c.in-Ok.grown p.slot _ c.over.result c.in-Ok.is c.over.ensures.refused c.in-Ok.ensures.added ∙ ap (image_with c.args.image.now p.slot) c.to_le_bytes-word.ensures in
    kept_one c.args.space.now c.args.image.now c.in-Ok.grown p _ _ c.args.limit f.context.now _ c.walk_with-walk.result grows more c.walk_with-walk.ensures.walk

pub returns-in-Err-clause-walk : goal.returns-in-Err-clause-walk
returns-in-Err-clause-walk t c =
    let f = c.args.frame.now in
    let p = c.in-Some.popped in
    let more = among_more f.image.now f.context.now (rule_in f.row.now.rules) f.cfa c.args.registers.now p _ _ c.in-len1-up.len_at_least c.popped_by.ensures c.rule_of-rule.ensures c.in-Some.is in
    let same = refused_with c.args.image.now p.slot _ c.over.result c.in-Err.field-0 c.in-Err.is c.over.ensures.refused ∙ ap (image_with c.args.image.now p.slot) c.to_le_bytes-word.ensures in
    kept_one c.args.space.now c.args.image.now c.args.image.now p _ _ c.args.limit f.context.now _ c.walk_with-walk-in-Err.result same more c.walk_with-walk-in-Err.ensures.walk
