use Rattle.perf_data.proofs.FileLemmas.{foreign_cause, pipe_cause, header_cause, unfinished_cause, attributes_cause, layouts_cause, machine_cause, records_cause}
use Rattle.perf_data.proofs.file.PerfFile.parse.Goals as goal

pub returns-clause-byte_order : goal.returns-clause-byte_order
returns-clause-byte_order c = rw c.file_in.ensures (foreign_cause c.args.bytes.now)

pub returns-clause-pipe : goal.returns-clause-pipe
returns-clause-pipe c = rw c.file_in.ensures (pipe_cause c.args.bytes.now)

pub returns-clause-header : goal.returns-clause-header
returns-clause-header c = rw c.file_in.ensures (header_cause c.args.bytes.now)

pub returns-clause-unfinished : goal.returns-clause-unfinished
returns-clause-unfinished c = rw c.file_in.ensures (unfinished_cause c.args.bytes.now)

pub returns-clause-attributes : goal.returns-clause-attributes
returns-clause-attributes c = rw c.file_in.ensures (attributes_cause c.args.bytes.now)

pub returns-clause-layouts : goal.returns-clause-layouts
returns-clause-layouts c = rw c.file_in.ensures (layouts_cause c.args.bytes.now)

pub returns-clause-machine : goal.returns-clause-machine
returns-clause-machine c = rw c.file_in.ensures (machine_cause c.args.bytes.now)

pub returns-clause-records : goal.returns-clause-records
returns-clause-records c = rw c.file_in.ensures (records_cause c.args.bytes.now)
