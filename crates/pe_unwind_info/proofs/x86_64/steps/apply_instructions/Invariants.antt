use Rattle.std.proofs.Common.{◌≡◌, drop}
use Rattle.pe_unwind_info.specs.Machine.{registers_of}
use Rattle.pe_unwind_info.specs.Steps.{epilog_run}
use Rattle.pe_unwind_info.proofs.x86_64.steps.apply_instructions.Given as goal

abbrev pub invariant-loop-instruction : goal.invariant-loop-instruction
invariant-loop-instruction g l = record {
  frame : l.frame ≡ l.fn.frame;
  stack : g.S.UnwindState.stack l.state ≡ g.S.UnwindState.stack l.fn.state;
  same : epilog_run l.fn.frame (g.S.UnwindState.stack l.fn.state) l.fn.instructions (registers_of (g.S.UnwindState.registers l.fn.state) (g.S.UnwindState.xmm_registers l.fn.state))
      ≡ epilog_run l.fn.frame (g.S.UnwindState.stack l.fn.state) (drop l.instruction-index l.instructions) (registers_of (g.S.UnwindState.registers l.state) (g.S.UnwindState.xmm_registers l.state));
}
