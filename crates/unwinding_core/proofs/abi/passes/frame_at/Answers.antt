use Rattle.unwinding_core.proofs.SeenFrames.{frame_seen}
use Rattle.unwinding_core.proofs.abi.passes.frame_at.Goals as goal

pub returns : goal.returns
returns g c =
    frame_seen (g.F.FDEFinder.finds c.args.finder.now) c.args.image.now (g.M.Context.RegisterMap.columns c.args.context.now) g.M.Machine.RA.0 c.args.signal c.from_context.result
    (g.met.M.Machine.has_ra c.args.context.now)
    (λ zero. (c.from_context.ensures.ends zero).0)
    (λ ra is other. let f = c.from_context.ensures.frame ra is other in (f.0, f.1, f.3, f.4))
