use Rattle.std.specs.Prelude.{IsSome}
use Rattle.unwinding_frames.proofs.Begun.{given, begun-columns}
use Rattle.unwinding_frames.proofs.frame.begin.Goals as goal

pub returns : goal.returns
returns g c =
    let columns = g.M.Context.RegisterMap.columns in
    let old = c.args.context.now in
    let middle = c.set.new.self in
    let has_ra : IsSome (columns old c.RA.result.0) = rw c.RA.ensures (g.met.M.Machine.has_ra old) in
    let has_sp : IsSome (columns middle c.SP.result.0) = rw c.SP.ensures (g.met.M.Machine.has_sp middle) in
    rw (← c.RA.ensures, ← c.SP.ensures)
    (begun-columns (columns old) (columns middle) (columns c.set-2.new.self) c.SP.result.0 c.RA.result.0 c.args.cfa
    (given c.set.result (columns old c.RA.result.0) c.set.ensures.found has_ra c.set.ensures.holds)
    (given c.set.result (columns old c.RA.result.0) c.set.ensures.found has_ra c.set.ensures.others)
    (given c.set-2.result (columns middle c.SP.result.0) c.set-2.ensures.found has_sp c.set-2.ensures.holds)
    (given c.set-2.result (columns middle c.SP.result.0) c.set-2.ensures.found has_sp c.set-2.ensures.others))
