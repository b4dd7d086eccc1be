use Rattle.delivery_laws.proofs.CountedStarts.{scanned_memory, scanned_apart, scanned}
use Rattle.delivery_laws.proofs.counting.a_frame_is_scanned.Goals as goal

pub returns-clause-memory : goal.returns-clause-memory
returns-clause-memory c = scanned_memory

pub returns-clause-apart : goal.returns-clause-apart
returns-clause-apart c = scanned_apart

pub returns-clause-scanned : goal.returns-clause-scanned
returns-clause-scanned c = scanned
