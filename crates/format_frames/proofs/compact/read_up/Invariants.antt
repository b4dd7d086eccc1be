use Rattle.std.proofs.Common.{◌≡◌, drop, map}
use Rattle.unwind_arch.specs.ContextViews.{columns_of}
use Rattle.format_definitions.specs.CompactStep.{saved_in, read_up}
use Rattle.format_frames.proofs.compact.read_up.Given as goal

abbrev pub invariant-loop-field : goal.invariant-loop-field
invariant-loop-field l = read_up l.stack l.place (map saved_in (drop l.field-index l.fields)) (columns_of l.caller) ≡ read_up l.stack l.fn.address (map saved_in l.fields) (columns_of l.fn.caller)
