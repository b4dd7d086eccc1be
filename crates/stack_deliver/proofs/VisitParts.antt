-- A turn by what is asked of a frame.
use Rattle.std.proofs.Common.{Bool, List, Option, Some, Result}
use Rattle.memory_image.specs.Image.{Span}
use Rattle.unwind_arch.specs.declared.x86_64.Context.{Context}
use Rattle.format_frames.specs.declared.machine.Stepped.{Stepped}
use Rattle.stack_steps.specs.declared.error.DeliverError.{DeliverError}
use Rattle.memory_image.specs.Results.{◌>>=◌, result_map}
use Rattle.stack_steps.specs.declared.asking.FrameAction.{FrameAction}
use Rattle.stack_steps.specs.Frames.{FrameAt}
use Rattle.stack_walks.specs.FrameVisits.{Pass, FrameVisit, Goes, stop_by, visit_at, visit_in}

-- ---- a turn

abbrev pub goes : Result Stepped DeliverError → Result FrameVisit DeliverError
goes = result_map Goes

abbrev pub visit_asked : Pass → List Span → Context → FrameAt → Result FrameAction DeliverError → Result FrameVisit DeliverError
visit_asked p image c f asked = result_map (stop_by p.phase) asked >>= visit_at image c f

abbrev pub visit_by : Pass → List Span → Context → Bool → Result (Option FrameAt) DeliverError → Result FrameVisit DeliverError
visit_by p image c interrupted frame = frame >>= visit_in (Some p) image c interrupted
