use Rattle.unwind_cli.proofs.searches.innermost_states.Goals as goal

pub walk_to_end_made-requires-clause-made : goal.walk_to_end_made-requires-clause-made
walk_to_end_made-requires-clause-made c = c.in_ok-made.ensures c.over_own_image-own.result
