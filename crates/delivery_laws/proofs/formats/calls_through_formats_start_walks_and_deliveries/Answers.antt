use Rattle.std.proofs.Common.{refl, lit<, lit≤}
use Rattle.format_laws.proofs.Valid.{laid_out}
use Rattle.delivery_laws.proofs.Starts.{chain_starts, valid_starts}
use Rattle.delivery_laws.proofs.formats.calls_through_formats_start_walks_and_deliveries.Goals as goal

pub returns-clause-memory : goal.returns-clause-memory
returns-clause-memory c = laid_out

pub returns-clause-apart : goal.returns-clause-apart
returns-clause-apart c = (lit≤ tt, lit< tt, (lit≤ tt, lit< tt, (lit≤ tt, lit< tt, lit< tt)))

pub returns-clause-modules : goal.returns-clause-modules
returns-clause-modules c = refl

pub returns-clause-walk : goal.returns-clause-walk
returns-clause-walk c = chain_starts

pub returns-clause-delivery : goal.returns-clause-delivery
returns-clause-delivery c = valid_starts

pub returns-clause-delivered : goal.returns-clause-delivered
returns-clause-delivered c = refl
