use Rattle.std.proofs.Common.{◌≡◌, Ok, subst}
use Rattle.std.specs.Int.{w32}
use Rattle.unwind_definitions.specs.Input.{Input, number}
use Rattle.encoded_pointers.specs.CursorViews.{at}
use Rattle.table_check.proofs.Standing.{short_by}
use Rattle.table_check.proofs.entries.is_short.Goals as goal

pub returns-in-Ok : goal.returns-in-Ok
returns-in-Ok c =
    short_by (record { base = c.args.address; offset = 0; bytes = c.args.bytes.now }) c.args.offset c.in-Ok.length (at c.read_u32.new.self)
    (subst (λ (i : Input). number w32 i ≡ Ok (c.in-Ok.length, at c.read_u32.new.self)) c.from_offset.ensures c.in-Ok.ensures.reads)
