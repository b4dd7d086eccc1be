use Rattle.unwind_laws.proofs.Leb.{unsigned_read, read_unsigned}
use Rattle.unwind_laws.proofs.numbers.unsigned_number_is_spelled.Goals as goal

pub returns-clause-read : goal.returns-clause-read
returns-clause-read c i d n is = unsigned_read i d n is

pub returns-clause-spelled : goal.returns-clause-spelled
returns-clause-spelled c i d n are e = read_unsigned i d n are e
