use Rattle.std.proofs.Common.{◌≡◌, ◌++◌, take}
use Rattle.sampled_profile.specs.Texts.{written_name}
use Rattle.sampled_profile.proofs.texts.put_written.Given as goal

abbrev pub invariant-loop-byte : goal.invariant-loop-byte
invariant-loop-byte l = l.report ≡ l.initial.report ++ written_name (take l.byte-index l.name)
