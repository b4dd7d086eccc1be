use Rattle.std.proofs.Common.{◌≡◌, ◌+◌, ◌-◌, sym, ap, ◌∙◌, arith}
use Rattle.std.proofs.lemmas.Result.{err_from_is_err_and}
use Rattle.unwind_arch.specs.ContextViews.{columns_of}
use Rattle.format_frames.specs.Modules.{macho_module}
use Rattle.format_frames.proofs.MachoSteps.{due_by, due_some, step_due}
use Rattle.format_frames.proofs.macho.macho_step.Goals as goal

pub returns-in_err-stepped-in-Some-clause-step : goal.returns-in_err-stepped-in-Some-clause-step
returns-in_err-stepped-in-Some-clause-step c =
    let p = err_from_is_err_and c.from_residual-in_err-stepped-in-Some.result c.from_residual-in_err-stepped-in-Some.ensures.1 in
    let module_of_it = macho_module c.args.module.now in
    let columns = columns_of c.args.context.now in
    let at : c.args.module.now.base + (c.args.address - c.args.module.now.base) ≡ c.args.address = omega arith in
    rw (p.1, p.2) ((rw c.macho_function.ensures.same at c.in_err-stepped-in-Some.ensures.caller) ∙ sym (due_some c.args.stack.now module_of_it c.args.address columns c.in-Some.function) ∙ ap (due_by c.args.stack.now module_of_it c.args.address columns) (rw c.in-Some.is at c.in_ok-function.ensures.function)
    ∙ step_due c.args.stack.now module_of_it (c.args.address - c.args.module.now.base) c.args.address columns at)

pub returns-in_ok-stepped-in-Some-clause-step : goal.returns-in_ok-stepped-in-Some-clause-step
returns-in_ok-stepped-in-Some-clause-step c =
    let module_of_it = macho_module c.args.module.now in
    let columns = columns_of c.args.context.now in
    let at : c.args.module.now.base + (c.args.address - c.args.module.now.base) ≡ c.args.address = omega arith in
    (rw c.macho_function.ensures.same at c.in_ok-stepped-in-Some.ensures.caller) ∙ sym (due_some c.args.stack.now module_of_it c.args.address columns c.in-Some.function) ∙ ap (due_by c.args.stack.now module_of_it c.args.address columns) (rw c.in-Some.is at c.in_ok-function.ensures.function)
    ∙ step_due c.args.stack.now module_of_it (c.args.address - c.args.module.now.base) c.args.address columns at
