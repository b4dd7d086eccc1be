use Rattle.std.proofs.Common.{◌≡◌, take}
use Rattle.sampled_profile.specs.Texts.{written_name}
use Rattle.sampled_profile.proofs.texts.is_plain.Given as goal

abbrev pub invariant-loop-byte : goal.invariant-loop-byte
invariant-loop-byte l = written_name (take l.byte-index l.name) ≡ take l.byte-index l.name
