use Rattle.std.proofs.Common.{◌-◌}
use Rattle.unwinding_frames.specs.Calling.{machine_of}
use Rattle.unwinding_frames.specs.Passes.{without_mark, by_trace}
use Rattle.unwinding_frames.specs.Seen.{stepping}
use Rattle.unwinding_core.specs.Stopping.{tracing, start_of}
use Rattle.unwinding_core.proofs.Lines.{Reaches}
use Rattle.unwinding_core.proofs.abi.backtrace._Unwind_Backtrace.Given as goal

abbrev pub invariant-loop : goal.invariant-loop
invariant-loop g l =
    Reaches (stepping (machine_of g.M.Machine.SP.0 g.M.Machine.RA.0) (g.F.FDEFinder.finds l.finder) l.image) (by_trace start_of (tracing g.T.Trace.traces l.image))
    l.limit (record { words = g.T.Trace.words l.fn.trace; hidden = l.fn.hidden }) (without_mark (g.M.Context.RegisterMap.columns l.context))
    (l.limit - l.counter) (record { words = g.T.Trace.words l.trace; hidden = l.hidden }) (record { context = g.M.Context.RegisterMap.columns l.here; signal = l.signal })
