use Rattle.std.proofs.Common.{◌≡◌, Err, List, Ok, Result, ap, get_or, subst, sym, ◌∙◌}
use Rattle.unwind_definitions.specs.declared.error.Error.{Error as Fault}
use Rattle.unwind_definitions.specs.declared.error.Error.TheVariants.{NoCfaRegister}
use Rattle.frame_rows.specs.RowValue.{RowValue}
use Rattle.frame_rows.specs.Rules.{cfa_meaning}
use Rattle.frame_rows.proofs.BodyMakes.{column_makes, same_row_of}
use Rattle.frame_rows.proofs.row_steps.SteppedBodies.make_cfa_register.Goals as goal

pub returns-clause-makes : goal.returns-clause-makes
returns-clause-makes c =
    let s = rw c.in-Some.is at c.in_ok-to.ensures.says in
    let same = same_row_of s.row c.in-Ok.row (sym (subst (λ (b : List (Result RowValue Fault)). get_or b c.args.place (Err NoCfaRegister) ≡ Ok s.row) (sym c.self.view_is) (s.was (Err NoCfaRegister))) ∙ sym (c.get.ensures (Err NoCfaRegister)) ∙ c.in-Ok.is) in
    let shape = ap (λ (r : RowValue). r.cfa) same ∙ sym c.cfa.ensures ∙ ap cfa_meaning c.in-RegisterAndOffset.is in
    column_makes c.args.self.now c.with_cfa.new.self c.in_ok-to.ensures.grows c.args.place c.in-Some.to s.row s.within s.was c.args.register c.in-RegisterAndOffset.offset s.says c.in-RegisterAndOffset.register shape
