use Rattle.std.proofs.Common.{arith}
use Rattle.pe_unwind_info.specs.FunctionTable.{functions_of, lookup_of, table_bytes}
use Rattle.format_frames.specs.Modules.{pe_module}
use Rattle.stack_steps.specs.Pe.{recorded_columns}
use Rattle.stack_steps.proofs.Callers.{records_give}
use Rattle.stack_steps.proofs.pe.RecordedFrame.step_to_caller.Goals as goal

pub returns-clause-caller : goal.returns-clause-caller
returns-clause-caller c =
    let m = pe_module c.args.self.now.container in
    let rva = c.args.self.now.rva in
    records_give m rva (recorded_columns c.args.stack.now c.args.state.now.context m rva (lookup_of (functions_of (table_bytes c.args.self.now.functions)) rva)) c.in_ok-caller.caller (omega arith) c.in_ok-caller.ensures.caller
