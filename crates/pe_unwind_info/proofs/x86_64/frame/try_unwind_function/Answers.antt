use Rattle.pe_unwind_info.specs.Machine.{registers_of}
use Rattle.pe_unwind_info.proofs.FrameLemmas.{frame_is}
use Rattle.pe_unwind_info.proofs.x86_64.frame.try_unwind_function.Goals as goal

pub returns-clause-by_memory : goal.returns-clause-by_memory
returns-clause-by_memory g c = λ memory only.
    frame_is _ memory only (g.S.UnwindState.stack c.args.state.now) c.args.address c.args.function (registers_of (g.S.UnwindState.registers c.args.state.now) (g.S.UnwindState.xmm_registers c.args.state.now)) _ c.unwind.ensures.registers
