use Rattle.std.proofs.Common.{◌≡◌, subst, arith}
use Rattle.frame_rows.specs.Reach.{IsSavedBelow}
use Rattle.frame_rows.specs.Rules.{rule_meaning}
use Rattle.frame_rows.specs.declared.rule.RegisterRule.{RegisterRule}
use Rattle.unwinding_frames.proofs.SavedSlots.{slot_written}
use Rattle.unwinding_frames.proofs.saved_slots.write_slot.Goals as goal

pub returns-then-register-lt16 : goal.returns-then-register-lt16
returns-then-register-lt16 c = λ image cfa are old.
    let k = c.args.register.0 in
    let saved = subst (λ (r : RegisterRule). IsSavedBelow c.args.reach k (rule_meaning r)) c.in-Offset.is c.requires.saved in
    rw c.in-Offset.is (slot_written image old c.args.context.now c.set.new.self cfa k c.in-Offset.offset c.args.reach c.u64_at-word.result c.args.slots.now
    are saved.0 saved.1 saved.2 c.u64_at-word.ensures (omega arith) (omega arith) c.set.result c.set.ensures.found c.set.ensures.holds c.set.ensures.others)

pub returns-else-register-lt16 : goal.returns-else-register-lt16
returns-else-register-lt16 c = λ image cfa are old.
    let k = c.args.register.0 in
    let saved = subst (λ (r : RegisterRule). IsSavedBelow c.args.reach k (rule_meaning r)) c.in-Offset.is c.requires.saved in
    let last : k ≡ 16 = let low = saved.0 in omega arith in
    rw (c.in-Offset.is, last) (slot_written image old c.args.context.now c.set-else-register-lt16.new.self cfa 16 c.in-Offset.offset c.args.reach c.u64_at-word.result c.args.slots.now
    are (omega arith) saved.1 saved.2 c.u64_at-word.ensures (omega arith) (omega arith) c.set-else-register-lt16.result c.set-else-register-lt16.ensures.found c.set-else-register-lt16.ensures.holds c.set-else-register-lt16.ensures.others)
