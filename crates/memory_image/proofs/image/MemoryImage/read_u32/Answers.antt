use Rattle.std.proofs.Common.{◌≡◌, ◌≤◌, ◌∙◌, length, take, Some, ap, sym, subst}
use Rattle.std.proofs.lemmas.List.{length-take-le}
use Rattle.memory_image.specs.Image.{IsLaidOut, table_at, half_at}
use Rattle.memory_image.specs.Words.{number_of, from_le_bytes_4}
use Rattle.memory_image.specs.ImageLaws.{number_at-table}
use Rattle.memory_image.proofs.image.MemoryImage.read_u32.Goals as goal

pub returns-in-Some : goal.returns-in-Some
unfolding half_at
returns-in-Some c =
    let laid : IsLaidOut 0 c.args.self.now = subst (IsLaidOut 0) c.self.view_is c.self.invariant.0 in
    let table = c.in_ok-table.ensures.held.0 in
    let chunk = c.in-Some.ensures.cases in
    let fits : 4 ≤ length (table_at c.args.self.now c.args.address) = rw table at chunk.enough in
    let long : length c.in-Some.bytes.now ≡ 4 = ap length chunk.same ∙ length-take-le 4 c.in_ok-table.table.now chunk.enough in
    let read : c.in-Some.bytes.now ≡ take 4 (table_at c.args.self.now c.args.address) = chunk.same ∙ ap (take 4) table in
    ap Some (c.from_le_bytes.ensures ∙ from_le_bytes_4 c.in-Some.bytes.now long ∙ ap number_of read) ∙ sym (number_at-table c.args.self.now c.args.address 4 laid fits)
