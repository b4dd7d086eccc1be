use Rattle.std.proofs.Common.{◌≡◌, ◌++◌}
use Rattle.sampled_profile.specs.CountViews.{lines_of}
use Rattle.sampled_profile.specs.Profiles.{profile_text}
use Rattle.sampled_profile.proofs.counts.StackCounts.put_lines.Given as goal

abbrev pub invariant-loop-stack : goal.invariant-loop-stack
invariant-loop-stack l = l.report ++ profile_text (lines_of l.stack-iterator) ≡ l.initial.report ++ profile_text l.self
