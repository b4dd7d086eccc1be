-- The code's header, its table and its answers as those of the definitions.
use Rattle.std.specs.Prelude.{Result}
use Rattle.std.specs.Result.{result_map_both}
use Rattle.unwind_definitions.specs.declared.error.Error.{Error}
use Rattle.unwind_definitions.specs.Entries.{Fde}
use Rattle.unwind_definitions.specs.Header.{FrameHeader, PairTable}
use Rattle.encoded_pointers.specs.CursorViews.{at}
use Rattle.encoded_pointers.specs.PointerViews.{bases_of, pointer_of}
use Rattle.eh_frame.specs.declared.fde.Fde.{Fde as CodeFde}
use Rattle.eh_frame.specs.declared.header.EhFrameHdr.{EhFrameHdr}
use Rattle.eh_frame.specs.declared.header.HdrTable.{HdrTable}
use Rattle.eh_frame.specs.EntryViews.{fde_of}

abbrev pub header_of : EhFrameHdr → FrameHeader
header_of h = record { frame = pointer_of h.eh_frame_ptr; count = h.count; encoding = h.encoding.0; bases = bases_of h.bases; pairs = at h.entries }

abbrev pub pairs_of : HdrTable → PairTable
pairs_of t = record { count = t.count; width = t.width; encoding = t.encoding.0; bases = bases_of t.bases; pairs = at t.entries }

abbrev pub answer_of : Result CodeFde Error → Result Fde Error
answer_of r = result_map_both fde_of (λ e. e) r
