use Rattle.std.proofs.Common.{Option, ap, ◌∙◌}
use Rattle.pe_unwind_info.specs.declared.x86_64.function_table.RuntimeFunction.{RuntimeFunction}
use Rattle.pe_unwind_info.specs.Machine.{Registers, registers_of}
use Rattle.pe_unwind_info.specs.FrameOf.{frame_end_of}
use Rattle.pe_unwind_info.proofs.FrameLemmas.{frame_is}
use Rattle.pe_unwind_info.proofs.x86_64.function_table.FunctionTableEntries.try_unwind_frame.Goals as goal

pub returns-clause-by_memory : goal.returns-clause-by_memory
returns-clause-by_memory g c = λ memory only. (
  c.lookup-function.result,
  c.lookup-function.ensures.lookup,
  frame_is _ memory only (g.S.UnwindState.stack c.args.state.now) c.args.address c.lookup-function.result (registers_of (g.S.UnwindState.registers c.args.state.now) (g.S.UnwindState.xmm_registers c.args.state.now)) _ c.unwind.ensures.registers,
)

pub returns-clause-repeats : goal.returns-clause-repeats
returns-clause-repeats g c = λ memory only.
    let regs : Registers = registers_of (g.S.UnwindState.registers c.args.state.now) (g.S.UnwindState.xmm_registers c.args.state.now) in
    frame_is _ memory only (g.S.UnwindState.stack c.args.state.now) c.args.address c.lookup-function.result regs _ c.unwind.ensures.registers
    ∙ ap (λ (function : Option RuntimeFunction). frame_end_of memory (g.S.UnwindState.stack c.args.state.now) c.args.address function regs) c.lookup-function.ensures.repeats
