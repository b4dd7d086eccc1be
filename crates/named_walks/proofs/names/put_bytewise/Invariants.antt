use Rattle.std.proofs.Common.{◌≡◌, ◌++◌, take}
use Rattle.named_walks.specs.Named.{written_text}
use Rattle.named_walks.proofs.names.put_bytewise.Given as goal

abbrev pub invariant-loop-byte : goal.invariant-loop-byte
invariant-loop-byte l = l.report ≡ l.initial.report ++ written_text (take l.byte-index l.name)
