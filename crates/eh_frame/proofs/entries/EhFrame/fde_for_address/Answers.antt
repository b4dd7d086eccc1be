use Rattle.std.proofs.Common.{refl}
use Rattle.encoded_pointers.specs.PointerViews.{bases_of}
use Rattle.eh_frame.specs.EntryViews.{table_of}
use Rattle.eh_frame.proofs.Answered.{answered_first, answered_contains, answered_fault, answered_none, answers_none}
use Rattle.eh_frame.proofs.entries.EhFrame.fde_for_address.Goals as goal

pub returns-clause-contains : goal.returns-clause-contains
returns-clause-contains c = answered_contains (bases_of c.args.bases.now) (table_of c.args.self.now) c.args.pc refl c.scan.result c.scan.ensures

pub returns-clause-first : goal.returns-clause-first
returns-clause-first c = answered_first (bases_of c.args.bases.now) (table_of c.args.self.now) c.args.pc refl c.scan.result c.scan.ensures

pub returns-clause-fault : goal.returns-clause-fault
returns-clause-fault c = answered_fault (bases_of c.args.bases.now) (table_of c.args.self.now) c.args.pc refl c.scan.result c.scan.ensures

pub returns-clause-none : goal.returns-clause-none
returns-clause-none c =
    let table = table_of c.args.self.now in
    let is = c.scan.ensures in
    (answered_none (bases_of c.args.bases.now) table c.args.pc refl c.scan.result is, answers_none (bases_of c.args.bases.now) table c.args.pc refl c.scan.result is)
