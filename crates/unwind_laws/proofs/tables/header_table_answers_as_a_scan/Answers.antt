use Rattle.unwind_laws.proofs.ByHeader.{header_answers}
use Rattle.unwind_laws.proofs.tables.header_table_answers_as_a_scan.Goals as goal

pub returns : goal.returns
returns c image m functions d a h table = header_answers image m functions d a h table
