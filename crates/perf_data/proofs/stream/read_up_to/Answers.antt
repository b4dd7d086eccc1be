use Rattle.std.proofs.Common.{◌++◌, ℕ, List, ap, append_assoc, ◌∙◌}
use Rattle.std.proofs.KnownBytes.{Keeps-trans}
use Rattle.perf_data.proofs.StreamLemmas.{on_again}
use Rattle.perf_data.proofs.stream.read_up_to.Goals as goal

pub returns-in_err-read_piece-clause-on : goal.returns-in_err-read_piece-clause-on
returns-in_err-read_piece-clause-on g c = on_again _ _ _ _ _ _ c.loop-input.invariant.on c.read_piece.ensures.on

pub loop-input-preserved : goal.loop-input-preserved
loop-input-preserved g c =
    let was = c.loop-input.invariant.front in
    let grown = c.read_piece.ensures.front in
    record {
      kept = Keeps-trans _ _ _ c.loop-input.invariant.kept c.in_ok-read_piece.ensures.kept;
      front = (was.0 ++ grown.0, grown.1 ∙ (ap (λ (xs : List ℕ). xs ++ grown.0) was.1 ∙ append_assoc c.args.bytes.now.items was.0 grown.0));
      on = on_again _ _ _ _ _ _ c.loop-input.invariant.on c.read_piece.ensures.on;
      piece = c.read_piece.ensures.piece ∙ c.loop-input.invariant.piece;
    }
