use Rattle.std.proofs.Common.{◌≡◌, Ok, refl, sym, ap, ◌∙◌}
use Rattle.unwind_definitions.specs.Row.{CfaRule}
use Rattle.unwind_definitions.specs.Caller.{cfa_value, x86_64}
use Rattle.unwind_definitions.specs.Expressions.{evaluation}
use Rattle.unwind_arch.specs.ContextViews.{columns_of}
use Rattle.unwinding_frames.proofs.Callers.{row_caller}
use Rattle.unwinding_frames.proofs.saved_slots.step_in_place.Goals as goal

pub returns-clause-caller : goal.returns-clause-caller
returns-clause-caller c = λ _ run is.
    let image = c.args.stack.now in
    let old = columns_of c.args.context.now in
    let row = c.args.row.now in
    let gives : cfa_value (evaluation image) old row.cfa ≡ Ok c.in-Some.cfa =
    ap (λ (r : CfaRule). cfa_value (evaluation image) old r) (sym c.cfa.ensures) ∙ c.in-Some.ensures (evaluation image) in
    let wrote = c.write_slots.ensures image c.in-Some.cfa c.in-Some-below.ensures old in
    sym (row_caller x86_64 (evaluation image) image old c.in-Some.cfa run row.cfa row.rules refl refl is.cfa gives c.registers.ensures.ascending is.rules)
    ∙ rw (c.registers.ensures.rules, c.begin.ensures) at wrote
