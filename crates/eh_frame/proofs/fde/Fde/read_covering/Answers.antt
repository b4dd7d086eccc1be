use Rattle.std.proofs.Common.{refl}
use Rattle.eh_frame.specs.EntryViews.{cie_of}
use Rattle.eh_frame.proofs.fde.Fde.read_covering.Goals as goal

pub returns-then-contains : goal.returns-then-contains
returns-then-contains c = rw (c.in_ok-listed.ensures.reads, ← c.contains.ensures (cie_of c.args.cie.now), c.if-contains.true, c.with_cie.ensures) refl

pub returns : goal.returns
returns c = rw (c.in_ok-listed.ensures.reads, ← c.contains.ensures (cie_of c.args.cie.now), c.if-contains.false) refl
