use Rattle.std.proofs.Common.{refl, sym}
use Rattle.pe_unwind_info.specs.Machine.{Registers, registers_of, Faulted}
use Rattle.pe_unwind_info.proofs.x86_64.function_table.FunctionTableEntries.unwind_frame.Goals as goal

pub returns-in-Err-clause-frame : goal.returns-in-Err-clause-frame
returns-in-Err-clause-frame g c =
    let left : Registers = registers_of (g.S.UnwindState.registers c.try_unwind_frame.new.state) (g.S.UnwindState.xmm_registers c.try_unwind_frame.new.state) in
    (Faulted c.in-Err.field-0 left, c.in-Err.ensures.frame, (c.in-Err.field-0, refl))

pub returns-in-Ok-clause-repeats : goal.returns-in-Ok-clause-repeats
returns-in-Ok-clause-repeats g c = λ memory only. sym (c.in-Ok.ensures.repeats memory only)

pub returns-in-Err-clause-repeats : goal.returns-in-Err-clause-repeats
returns-in-Err-clause-repeats g c = λ memory only. (c.in-Err.field-0, sym (c.in-Err.ensures.repeats memory only))
