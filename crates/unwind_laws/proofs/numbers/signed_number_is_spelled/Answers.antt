use Rattle.unwind_laws.proofs.Leb.{signed_read, read_signed}
use Rattle.unwind_laws.proofs.numbers.signed_number_is_spelled.Goals as goal

pub returns-clause-read : goal.returns-clause-read
returns-clause-read c i d n is = signed_read i d n is

pub returns-clause-spelled : goal.returns-clause-spelled
returns-clause-spelled c i d n are e = read_signed i d n are e
