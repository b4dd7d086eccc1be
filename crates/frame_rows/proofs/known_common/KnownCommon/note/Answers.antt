use Rattle.encoded_pointers.specs.CursorViews.{at}
use Rattle.frame_rows.specs.InstructionViews.{coding_in}
use Rattle.frame_rows.proofs.KnownEnds.{knows_end}
use Rattle.frame_rows.proofs.known_common.KnownCommon.note.Goals as goal

pub invariant_of-self : goal.invariant_of-self
invariant_of-self c is = knows_end (coding_in c.args.coding) (at c.args.common) _ c.args.machine.now.state c.put_state.new.state c.bytes-self-inside.ensures c.put_state.ensures (c.sets_no_location-self-inside.ensures is) c.requires
