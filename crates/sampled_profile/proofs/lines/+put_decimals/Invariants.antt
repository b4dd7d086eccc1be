use Rattle.sampled_profile.proofs.lines.+put_decimals.Given as goal

abbrev pub decreases-put_decimals : goal.decreases-put_decimals
decreases-put_decimals l = l.count
