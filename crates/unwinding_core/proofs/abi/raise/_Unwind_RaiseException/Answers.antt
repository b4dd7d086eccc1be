use Rattle.std.proofs.Common.{refl}
use Rattle.unwinding_core.proofs.Untaken.{cleanup_is_taken}
use Rattle.unwinding_frames.specs.Seen.{in_column}
use Rattle.unwinding_core.proofs.abi.raise._Unwind_RaiseException.Goals as goal

pub returns-in-Decided-clause-raised : goal.returns-in-Decided-clause-raised
returns-in-Decided-clause-raised g c =
    (c.search.ensures.0, c.search.ensures.1, rw (← c.search.ensures.2, c.in-Decided.is, ← c.if-eq.ensures, c.mark-kept.ensures) (refl, rw c.mark-kept.ensures at c.cleanup.ensures))

pub returns-in-Decided-clause-untaken : goal.returns-in-Decided-clause-untaken
returns-in-Decided-clause-untaken g c =
    λ none. absurd (cleanup_is_taken _ _ (in_column g.M.Machine.SP.0) c.mark-kept.result c.cleanup.ensures.0.end _ c.cleanup.ensures.2 none)
