use Rattle.std.proofs.Common.{◌≡◌}
use Rattle.kalzurenk_c.proofs.OutwardLemmas.{Way}
use Rattle.kalzurenk_c.proofs.outward.put_frames.Given as goal

abbrev pub invariant-loop-i : goal.invariant-loop-i
invariant-loop-i g l = record {
  over : g.A.Advance.space l.outward ≡ g.A.Advance.space l.fn.outward;
  way : Way (g.A.Advance.space l.fn.outward) l.limit l.i l.fn.state l.state l.fn.frames l.frames;
}
