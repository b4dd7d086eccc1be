use Rattle.unwind_laws.proofs.Reading.{row_is_read}
use Rattle.unwind_laws.proofs.rows.reading_gives_row.Goals as goal

pub returns : goal.returns
returns c coding start pc common own = row_is_read coding start pc common own
