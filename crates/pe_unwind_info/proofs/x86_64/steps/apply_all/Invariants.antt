use Rattle.std.proofs.Common.{◌≡◌, map, length}
use Rattle.pe_unwind_info.specs.Machine.{registers_of}
use Rattle.pe_unwind_info.specs.Operations.{Placed, operations_left}
use Rattle.pe_unwind_info.specs.Steps.{run}
use Rattle.pe_unwind_info.proofs.x86_64.steps.apply_all.Given as goal

abbrev pub invariant-loop-operation : goal.invariant-loop-operation
invariant-loop-operation g l = record {
  header : l.header ≡ l.fn.header;
  stack : g.S.UnwindState.stack l.state ≡ g.S.UnwindState.stack l.fn.state;
  same : run l.fn.header (g.S.UnwindState.stack l.fn.state) (map (λ (p : Placed). p.1) (operations_left l.fn.operations)) (registers_of (g.S.UnwindState.registers l.fn.state) (g.S.UnwindState.xmm_registers l.fn.state))
      ≡ run l.fn.header (g.S.UnwindState.stack l.fn.state) (map (λ (p : Placed). p.1) (operations_left l.operations)) (registers_of (g.S.UnwindState.registers l.state) (g.S.UnwindState.xmm_registers l.state));
}

abbrev pub decreases-loop-operation : goal.decreases-loop-operation
decreases-loop-operation g l = length (operations_left l.operations)
