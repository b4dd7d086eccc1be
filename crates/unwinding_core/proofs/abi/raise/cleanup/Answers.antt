use Rattle.std.proofs.Common.{[], ◌∙◌, ap}
use Rattle.unwinding_frames.specs.Calling.{machine_of}
use Rattle.unwinding_frames.specs.Passes.{without_mark, cleanup_actions, cleanup_end}
use Rattle.unwinding_core.specs.Runs.{thrown_by}
use Rattle.unwinding_frames.specs.Seen.{in_column, stepping, answering}
use Rattle.unwinding_core.proofs.Stateless.{stateless}
use Rattle.unwinding_core.proofs.abi.raise.cleanup.Goals as goal

pub returns : goal.returns
returns g c =
    let p = rw c.call-call.ensures at c.pass-end.ensures in
    let step = stepping (machine_of g.M.Machine.SP.0 g.M.Machine.RA.0) (g.F.FDEFinder.finds c.args.finder.now) c.args.image.now in
    let language = answering (g.P.Personality.answers c.args.personality.now) c.args.image.now (thrown_by c.args.exception.now) in
    let plain = stateless step language (cleanup_actions (in_column g.M.Machine.SP.0) c.args.kept) c.args.limit [] (without_mark (g.M.Context.RegisterMap.columns c.args.start.now)) p.0 p.1 in
    (plain.0, plain.1, c.cleanup_end.ensures ∙ ap (cleanup_end (in_column g.M.Machine.SP.0) c.args.kept) (p.2 ∙ plain.2))
