use Rattle.std.proofs.Common.{◌≡◌, drop}
use Rattle.std.specs.List.{filter_map}
use Rattle.unwind_arch.specs.ContextViews.{columns_of}
use Rattle.format_definitions.specs.CompactStep.{saved_in, read_down}
use Rattle.format_frames.proofs.compact.read_down.Given as goal

abbrev pub invariant-loop-listed : goal.invariant-loop-listed
invariant-loop-listed l = read_down l.stack l.place (filter_map saved_in (drop l.listed-index l.registers)) (columns_of l.caller) ≡ read_down l.stack l.fn.address (filter_map saved_in l.registers) (columns_of l.fn.caller)
