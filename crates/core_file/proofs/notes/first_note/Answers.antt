use Rattle.std.proofs.Common.{arith}
use Rattle.std.proofs.lemmas.List.{take_rest}
use Rattle.core_file.proofs.NoteLemmas.{first_made}
use Rattle.core_file.proofs.notes.first_note.Goals as goal

pub returns : goal.returns
returns c =
    first_made c.args.bytes.now c.u32_at.result c.u32_at-2.result c.u32_at-kind.result c.in_ok-name.name.now c.in_ok-name.after_name.now c.in_ok-description.description.now c.in_ok-description.rest.now (omega arith)
    c.u32_at.ensures c.u32_at-2.ensures c.u32_at-kind.ensures (rw take_rest at c.in_ok-name.ensures) c.in_ok-description.ensures
