use Rattle.frame_vectors.proofs.made_rows.walk_case.Goals as goal

pub walk_to_end_made-end-requires-clause-made : goal.walk_to_end_made-end-requires-clause-made
walk_to_end_made-end-requires-clause-made c = c.in_ok-made.ensures c.over_own_image-own.result
