use Rattle.std.proofs.Common.{◌≡◌, ◌-◌}
use Rattle.std.specs.Option.{option_map}
use Rattle.pe_unwind_info.specs.Machine.{registers_of, FrameEnd}
use Rattle.pe_unwind_info.specs.Frame.{Gives, IsLinked}
use Rattle.pe_unwind_info.proofs.x86_64.frame.unwind_links.Given as goal

abbrev pub invariant-loop-turn : goal.invariant-loop-turn
invariant-loop-turn g l = record {
  stack : g.S.UnwindState.stack l.state ≡ g.S.UnwindState.stack l.fn.state;
  same : (end : FrameEnd) →
      IsLinked (Gives (goal.M-post g l.fn.memory_at_rva) (option_map (λ bytes. bytes.now))) (g.S.UnwindState.stack l.fn.state) (32 - l._turn) l.next (registers_of (g.S.UnwindState.registers l.state) (g.S.UnwindState.xmm_registers l.state)) end
      → IsLinked (Gives (goal.M-post g l.fn.memory_at_rva) (option_map (λ bytes. bytes.now))) (g.S.UnwindState.stack l.fn.state) 32 l.fn.first (registers_of (g.S.UnwindState.registers l.fn.state) (g.S.UnwindState.xmm_registers l.fn.state)) end;
}
