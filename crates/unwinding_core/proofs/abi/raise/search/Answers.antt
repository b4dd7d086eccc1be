use Rattle.std.proofs.Common.{[], ◌∙◌}
use Rattle.unwinding_frames.specs.declared.abi.TheConstants.UnwindAction as actions
use Rattle.unwinding_frames.specs.Calling.{machine_of}
use Rattle.unwinding_frames.specs.Passes.{without_mark}
use Rattle.unwinding_core.specs.Runs.{thrown_by}
use Rattle.unwinding_frames.specs.Seen.{stepping, answering}
use Rattle.unwinding_core.proofs.Stateless.{stateless}
use Rattle.unwinding_core.proofs.abi.raise.search.Goals as goal

pub returns : goal.returns
returns g c =
    let p = rw c.call-call.ensures at c.pass.ensures in
    let step = stepping (machine_of g.M.Machine.SP.0 g.M.Machine.RA.0) (g.F.FDEFinder.finds c.args.finder.now) c.args.image.now in
    let language = answering (g.P.Personality.answers c.args.personality.now) c.args.image.now (thrown_by c.args.exception.now) in
    let plain = stateless step language (λ x. actions.SEARCH_PHASE) c.args.limit [] (without_mark (g.M.Context.RegisterMap.columns c.args.start.now)) p.0 p.1 in
    (plain.0, plain.1, p.2 ∙ plain.2)
