use Rattle.fact_checks.proofs.rows.mismatch_at.Goals as goal

pub returns-in-Ok : goal.returns-in-Ok
returns-in-Ok c coding from a due walking after before = c.row_mismatch.ensures (due a) (c.in-Ok.ensures coding from a due walking after before)
