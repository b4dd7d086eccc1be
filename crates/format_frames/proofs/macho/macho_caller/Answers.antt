use Rattle.std.proofs.Common.{Err, refl}
use Rattle.std.proofs.lemmas.Result.{err_from_is_err_and}
use Rattle.unwind_arch.specs.ContextViews.{columns_of}
use Rattle.format_frames.specs.Modules.{macho_module}
use Rattle.format_frames.proofs.MachoSteps.{opcode_alone_due}
use Rattle.format_frames.proofs.macho.macho_caller.Goals as goal

pub returns-in_err-stepped-clause-caller : goal.returns-in_err-stepped-clause-caller
returns-in_err-stepped-clause-caller c =
    let p = err_from_is_err_and c.from_residual.result c.from_residual.ensures.1 in
    let at = rw c.from.ensures at c.in_err-stepped.ensures.step in
    rw (p.1, p.2) (opcode_alone_due c.args.stack.now (macho_module c.args.module.now) _ (columns_of c.args.context.now) c.args.function.now (Err c.in_err-stepped.field-0.0) refl (rw c.parse-opcode.ensures at at))
