use Rattle.delivery_laws.proofs.CountedStarts.{header_memory, header_apart, header_starts, one_header, counts}
use Rattle.delivery_laws.proofs.counting.a_header_of_three_has_two_digits.Goals as goal

pub returns-clause-memory : goal.returns-clause-memory
returns-clause-memory c = header_memory

pub returns-clause-apart : goal.returns-clause-apart
returns-clause-apart c = header_apart

pub returns-clause-delivery : goal.returns-clause-delivery
returns-clause-delivery c = header_starts

pub returns-clause-header : goal.returns-clause-header
returns-clause-header c = one_header

pub returns-clause-counts : goal.returns-clause-counts
returns-clause-counts c = counts
