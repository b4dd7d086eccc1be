-- What a session's handle owns: the same as a box of the session.
use base.Fml.{Fml, ftrue}
use base.Stored.{Coded}
use denote.RawPtr.{Ptr}
use Rattle.std.specs.Prelude.{Option, Some, None}
use Rattle.std.specs.Coded.{coded_option}
use Rattle.std.specs.Box.Ownership.{box_owns}
use Rattle.std.specs.declared.alloc.Global.{Global}
use Rattle.std.specs.contracts.impls.GlobalAllocator.TheImpl.{ghosts}
use Rattle.kalzurenk_c.specs.contracts.session.Session.{the_row}

abbrev pub session_owns : Global → Ptr → the_row.Denot → Fml
session_owns alloc = box_owns (ghosts.dealloc_token alloc) the_row

abbrev pub session_coded : Coded the_row.Denot
session_coded = the_row.coded

-- a slot that is empty owns nothing
abbrev pub slot_owns : Global → Ptr → Option the_row.Denot → Fml
slot_owns alloc at None = ftrue
slot_owns alloc at (Some session) = session_owns alloc at session

abbrev pub slot_coded : Coded (Option the_row.Denot)
slot_coded = coded_option session_coded
