use Rattle.std.proofs.Common.{◌∙◌}
use Rattle.std.proofs.KnownBytes.{Keeps-trans}
use Rattle.perf_data.proofs.StreamLemmas.{on_again}
use Rattle.perf_data.proofs.stream.read_rest.Goals as goal

pub returns-in_err-read_piece-clause-on : goal.returns-in_err-read_piece-clause-on
returns-in_err-read_piece-clause-on g c = on_again _ _ _ _ _ _ c.loop.invariant.on c.read_piece.ensures.on

pub loop-preserved : goal.loop-preserved
loop-preserved g c = record {
  kept = Keeps-trans _ _ _ c.loop.invariant.kept c.in_ok-read_piece.ensures.kept;
  on = on_again _ _ _ _ _ _ c.loop.invariant.on c.read_piece.ensures.on;
  piece = c.read_piece.ensures.piece ∙ c.loop.invariant.piece;
}
