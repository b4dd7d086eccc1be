use Rattle.std.proofs.Common.{◌-◌}
use Rattle.unwinding_frames.specs.Calling.{machine_of}
use Rattle.unwinding_frames.specs.Passes.{without_mark}
use Rattle.unwinding_frames.specs.Seen.{in_column, stepping, answering}
use Rattle.unwinding_core.specs.Stopping.{stopping}
use Rattle.unwinding_core.specs.FrameVisits.{thrown_of, asks_in}
use Rattle.unwinding_core.proofs.Lines.{Reaches}
use Rattle.unwinding_core.proofs.abi.passes.pass.Given as goal

abbrev pub invariant-loop : goal.invariant-loop
invariant-loop g l =
    Reaches (stepping (machine_of g.M.Machine.SP.0 g.M.Machine.RA.0) (g.F.FDEFinder.finds l.finder) l.image)
    (asks_in l.call.phase (in_column g.M.Machine.SP.0) (answering (g.P.Personality.answers l.personality) l.image (thrown_of l.call)) (stopping g.T.Stop.stops l.image (thrown_of l.call)))
    l.limit (g.T.Stop.words l.fn.stop) (without_mark (g.M.Context.RegisterMap.columns l.start))
    (l.limit - l.counter) (g.T.Stop.words l.stop) (record { context = g.M.Context.RegisterMap.columns l.context; signal = l.signal })
