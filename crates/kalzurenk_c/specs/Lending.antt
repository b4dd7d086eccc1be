-- What a handle ends as, once a borrow of its session has ended. No public clause cites this.
use Rattle.std.specs.Borrow.{Fml, MutBor, Lends}
use Rattle.kalzurenk_c.specs.declared.handle.SessionHandle.{SessionHandle}
use Rattle.kalzurenk_c.specs.SessionValues.{SessionValue}
use Rattle.kalzurenk_c.specs.contracts.handle.SessionHandle.{the_row as handle}
use Rattle.kalzurenk_c.specs.contracts.session.Session.{the_row as session}

-- the same handle with another session
abbrev pub with_session : SessionHandle → SessionValue → SessionHandle
with_session h w = record { at = h.at; alloc = h.alloc; value = w }

-- the handle ends with the session that was last written through r
abbrev pub LendsSession : MutBor SessionHandle → MutBor SessionValue → Fml
LendsSession h r = Lends handle session h r (with_session h.now)
