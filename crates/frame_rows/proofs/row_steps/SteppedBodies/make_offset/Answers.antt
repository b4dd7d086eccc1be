use Rattle.std.proofs.Common.{◌≡◌, Err, List, Ok, Result, ap, get_or, subst, sym, ◌∙◌}
use Rattle.unwind_definitions.specs.declared.error.Error.{Error as Fault}
use Rattle.unwind_definitions.specs.declared.error.Error.TheVariants.{NoCfaRegister}
use Rattle.unwind_definitions.specs.Instructions.{CfaOffset}
use Rattle.frame_rows.specs.BodySteps.{MakesBody, offset_step}
use Rattle.frame_rows.specs.RowValue.{RowValue}
use Rattle.frame_rows.specs.Rules.{cfa_meaning}
use Rattle.frame_rows.proofs.BodyMakes.{offset_makes, same_row_of}
use Rattle.frame_rows.proofs.BodySteps.{noted_steps}
use Rattle.frame_rows.proofs.row_steps.SteppedBodies.make_offset.Goals as goal

pub invariant_of-self : goal.invariant_of-self
invariant_of-self c =
    let s = rw c.in-Some.is at c.in_ok-to.ensures.says in
    let same = same_row_of s.row c.in-Ok.row (sym (subst (λ (b : List (Result RowValue Fault)). get_or b c.args.place (Err NoCfaRegister) ≡ Ok s.row) (sym c.self.view_is) (s.was (Err NoCfaRegister))) ∙ sym (c.get.ensures (Err NoCfaRegister)) ∙ c.in-Ok.is) in
    let shape = ap (λ (r : RowValue). r.cfa) same ∙ sym c.cfa.ensures ∙ ap cfa_meaning c.in-RegisterAndOffset.is in
    let made = offset_makes c.args.self.now c.with_cfa.new.self c.in_ok-to.ensures.grows c.args.place c.in-Some.to s.row s.within s.was c.in-RegisterAndOffset.register c.in-RegisterAndOffset.offset c.args.offset shape s.says in
    let makes = subst (λ (b : List (Result RowValue Fault)). MakesBody b (CfaOffset c.args.offset) c.args.place c.in-Some.to) (sym c.self-2.view_is) made in
    (noted_steps offset_step c.self-2.inside.bodies c.self-2.inside.offsets c.note.new.self _ c.note.ensures c.self-2.invariant.0 makes, c.self-2.invariant.1)

pub invariant_of-self-2 : goal.invariant_of-self-2
invariant_of-self-2 c =
    let s = rw c.in-Some.is at c.in_ok-to.ensures.says in
    let same = same_row_of s.row c.in-Ok.row (sym (subst (λ (b : List (Result RowValue Fault)). get_or b c.args.place (Err NoCfaRegister) ≡ Ok s.row) (sym c.self.view_is) (s.was (Err NoCfaRegister))) ∙ sym (c.get.ensures (Err NoCfaRegister)) ∙ c.in-Ok.is) in
    let shape = ap (λ (r : RowValue). r.cfa) same ∙ sym c.cfa.ensures ∙ ap cfa_meaning c.in-RegisterAndOffset.is in
    let made = offset_makes c.args.self.now c.with_cfa.new.self c.in_ok-to.ensures.grows c.args.place c.in-Some.to s.row s.within s.was c.in-RegisterAndOffset.register c.in-RegisterAndOffset.offset c.args.offset shape s.says in
    let makes = subst (λ (b : List (Result RowValue Fault)). MakesBody b (CfaOffset c.args.offset) c.args.place c.in-Some.to) (sym c.self-2.view_is) made in
    (noted_steps offset_step c.self-2.inside.bodies c.self-2.inside.offsets c.note.new.self _ c.note.ensures c.self-2.invariant.0 makes, c.self-2.invariant.1)

pub returns-clause-makes : goal.returns-clause-makes
returns-clause-makes c =
    let s = rw c.in-Some.is at c.in_ok-to.ensures.says in
    let same = same_row_of s.row c.in-Ok.row (sym (subst (λ (b : List (Result RowValue Fault)). get_or b c.args.place (Err NoCfaRegister) ≡ Ok s.row) (sym c.self.view_is) (s.was (Err NoCfaRegister))) ∙ sym (c.get.ensures (Err NoCfaRegister)) ∙ c.in-Ok.is) in
    let shape = ap (λ (r : RowValue). r.cfa) same ∙ sym c.cfa.ensures ∙ ap cfa_meaning c.in-RegisterAndOffset.is in
    let made = offset_makes c.args.self.now c.with_cfa.new.self c.in_ok-to.ensures.grows c.args.place c.in-Some.to s.row s.within s.was c.in-RegisterAndOffset.register c.in-RegisterAndOffset.offset c.args.offset shape s.says in
    let makes = subst (λ (b : List (Result RowValue Fault)). MakesBody b (CfaOffset c.args.offset) c.args.place c.in-Some.to) (sym c.self-2.view_is) made in
    makes
