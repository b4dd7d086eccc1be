use Rattle.unwind_laws.proofs.Scanned.{scan_is}
use Rattle.unwind_laws.proofs.tables.scan_finds_first.Goals as goal

pub returns : goal.returns
returns c bases table pc entries start are = scan_is bases table pc entries start are
