use Rattle.std.proofs.Common.{◌-◌, length, arith}
use Rattle.generated_chains.specs.Shown.{state_in}
use Rattle.generated_chains.proofs.stack.stack_of.Goals as goal
use Rattle.generated_chains.proofs.Loops.{index_at, stack_turn, state_turn, room_below, past}

pub entered_from-state-requires-clause-index : goal.entered_from-state-requires-clause-index
entered_from-state-requires-clause-index c =
    let os = c.args.functions.now in
    let at = index_at 0 os ((length os - 1) - c.loop-called.called) past c.requires.numbered (omega arith) in omega (arith, at)

pub entered_from-state-requires-clause-room : goal.entered_from-state-requires-clause-room
entered_from-state-requires-clause-room c = room_below c.args.seed c.loop-called.called c.args.functions.now (state_in c.loop-called.state) (omega arith) c.requires.numbered c.requires.few (omega arith) c.loop-called.invariant.state

pub loop-called-preserved : goal.loop-called-preserved
loop-called-preserved c = record {
  bytes = stack_turn c.args.seed c.loop-called.called c.args.functions.now past c.loop-called.bytes.items c.put_frame_down.new.bytes.items (state_in c.loop-called.state) (omega arith) c.loop-called.invariant.bytes c.loop-called.invariant.state c.in_ok-put_frame_down.ensures;
  state = state_turn c.args.seed c.loop-called.called c.args.functions.now past (state_in c.loop-called.state) (state_in c.entered_from-state.result) (omega arith) c.loop-called.invariant.state c.entered_from-state.ensures;
}
