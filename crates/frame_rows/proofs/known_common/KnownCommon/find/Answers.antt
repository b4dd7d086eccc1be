use Rattle.std.proofs.Common.{sym, ◌∙◌}
use Rattle.encoded_pointers.specs.CursorViews.{at}
use Rattle.frame_rows.specs.InstructionViews.{coding_in}
use Rattle.frame_rows.proofs.known_common.KnownCommon.find.Goals as goal

pub returns-then-are_same : goal.returns-then-are_same
returns-then-are_same c = (c.self.invariant c.if-self.true).ends (coding_in c.args.coding) (at c.args.common) (sym c.if-self-coding.true) (sym c.if-self-coding-2.true) (sym (c.are_same.ensures.0 c.if-are_same.true ∙ c.bytes.ensures))
