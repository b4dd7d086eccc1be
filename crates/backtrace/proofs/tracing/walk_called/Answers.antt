use Rattle.backtrace.proofs.tracing.walk_called.Goals as goal

pub walk_to_end_made-requires-clause-made : goal.walk_to_end_made-requires-clause-made
walk_to_end_made-requires-clause-made c = c.in_ok-made.ensures c.over_own_image-own.result
