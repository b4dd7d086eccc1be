use Rattle.std.proofs.Common.{◌≡◌, map, Err, sym}
use Rattle.std.proofs.lemmas.Result.{err_from_is_err_and}
use Rattle.frame_rows.specs.Rules.{entry_of}
use Rattle.frame_rows.specs.Left.{registers_left}
use Rattle.unwind_definitions.specs.Expressions.{evaluation}
use Rattle.unwinding_frames.specs.Calling.{rules_applied, fault_of}
use Rattle.unwinding_frames.proofs.Faults.{err_stays}
use Rattle.unwinding_frames.proofs.frame.apply_rest.Goals as goal

pub returns-in_err-apply_rule : goal.returns-in_err-apply_rule
returns-in_err-apply_rule g c =
    let p = err_from_is_err_and c.from_residual.result c.from_residual.ensures.1 in
    let fails : rules_applied (evaluation c.args.image.now) c.args.image.now (g.M.Context.RegisterMap.columns c.args.context.now) c.args.cfa (map entry_of (registers_left c.args.rules)) (g.M.Context.RegisterMap.columns c.args.caller.now) ≡ Err (fault_of c.in_err-apply_rule.field-0.0) =
    rw (← c.loop-register.invariant, c.in-Some.ensures.steps) (err_stays _ _ _ (sym c.in_err-apply_rule.ensures)) in
    rw (p.1, p.2) (sym fails)
