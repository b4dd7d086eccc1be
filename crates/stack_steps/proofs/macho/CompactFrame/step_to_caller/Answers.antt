use Rattle.std.proofs.Common.{◌+◌, arith}
use Rattle.std.proofs.lemmas.Result.{err_from_is_err_and}
use Rattle.unwind_arch.specs.ContextViews.{columns_of}
use Rattle.macho_unwind_info.specs.X86_64.{opcode_of}
use Rattle.format_definitions.specs.CompactStep.{opcode_step}
use Rattle.format_frames.specs.Modules.{macho_module}
use Rattle.stack_steps.proofs.Callers.{opcode_faults, opcode_gives}
use Rattle.stack_steps.proofs.macho.CompactFrame.step_to_caller.Goals as goal

pub returns-in_err-caller-clause-caller : goal.returns-in_err-caller-clause-caller
returns-in_err-caller-clause-caller c =
    let m = macho_module c.args.self.now.container in
    let listed = c.args.self.now.function in
    let p = err_from_is_err_and c.from_residual.result c.from_residual.ensures.1 in
    rw (p.1, p.2) (opcode_faults (opcode_step c.args.stack.now (m.base + listed.start_address) (columns_of c.args.state.now.context) (opcode_of listed.opcode)) c.in_err-caller.field-0.0 c.in_err-caller.ensures.caller)

pub returns-clause-caller : goal.returns-clause-caller
returns-clause-caller c =
    let m = macho_module c.args.self.now.container in
    let listed = c.args.self.now.function in
    opcode_gives (opcode_step c.args.stack.now (m.base + listed.start_address) (columns_of c.args.state.now.context) (opcode_of listed.opcode)) c.in_ok-caller.caller (omega arith) c.in_ok-caller.ensures.caller
