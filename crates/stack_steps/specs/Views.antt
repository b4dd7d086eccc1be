-- Why frames of Mach-O and PE modules have no caller, as the code names it.
use Rattle.format_frames.specs.declared.error.FrameError.{FrameError}
use Rattle.format_frames.specs.declared.error.FrameError.TheVariants as frame
use Rattle.stack_steps.specs.declared.error.DeliverError.{DeliverError}
use Rattle.stack_steps.specs.declared.error.DeliverError.TheVariants.{Table, Unmapped, MachO, CompactForm, PeInfo, ChainLimit}

abbrev pub format_error : FrameError → DeliverError
format_error (frame.MachO e) = MachO e
format_error frame.CompactForm = CompactForm
format_error (frame.PeInfo a) = PeInfo
format_error frame.ChainLimit = ChainLimit
format_error (frame.Table e) = Table e
format_error (frame.Unmapped a) = Unmapped a
