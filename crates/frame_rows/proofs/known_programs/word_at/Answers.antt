use Rattle.std.proofs.Common.{ℕ, ◌+◌, List, arith}
use Rattle.std.specs.Prelude.{slice_range}
use Rattle.std.proofs.lemmas.Nat.{le_bytes_8}
use Rattle.frame_rows.proofs.Ends.{part_bytes}
use Rattle.frame_rows.proofs.Parts.{length-part}
use Rattle.frame_rows.proofs.known_programs.word_at.Goals as goal

pub returns-clause-word : goal.returns-clause-word
returns-clause-word c = c.from_le_bytes.ensures

pub returns-clause-bytes : goal.returns-clause-bytes
returns-clause-bytes c =
    let part : List ℕ = slice_range c.args.bytes.now c.args.index (c.args.index + 8) in
    let count = length-part c.args.bytes.now c.args.index (c.args.index + 8) (omega arith) c.requires in
    le_bytes_8 part c.from_le_bytes.result (omega arith) (part_bytes c.args.bytes.now c.args.index (c.args.index + 8) (λ i. let fits = c.type_inv.bytes i in omega arith)) c.from_le_bytes.ensures
