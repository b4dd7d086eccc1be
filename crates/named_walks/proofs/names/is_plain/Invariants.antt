use Rattle.std.proofs.Common.{◌≡◌, take}
use Rattle.named_walks.specs.Named.{written_text}
use Rattle.named_walks.proofs.names.is_plain.Given as goal

abbrev pub invariant-loop-byte : goal.invariant-loop-byte
invariant-loop-byte l = written_text (take l.byte-index l.name) ≡ take l.byte-index l.name
