use Rattle.encoded_pointers.specs.PointerViews.{bases_of}
use Rattle.eh_frame.specs.EntryViews.{table_of}
use Rattle.eh_frame.specs.HeaderViews.{pairs_of}
use Rattle.eh_frame.proofs.Named.{answer_may, answer_named, answer_none, answer_fault}
use Rattle.eh_frame.proofs.header.HdrTable.fde_for_address.Goals as goal

pub returns-clause-answer : goal.returns-clause-answer
returns-clause-answer g c = answer_may (bases_of c.args.bases.now) (table_of c.args.frame.now) (pairs_of c.args.self.now) c.args.pc c.search.result c.search.ensures.exact

pub returns-clause-named : goal.returns-clause-named
returns-clause-named g c = answer_named (bases_of c.args.bases.now) (table_of c.args.frame.now) (pairs_of c.args.self.now) c.args.pc c.search.result (answer_may (bases_of c.args.bases.now) (table_of c.args.frame.now) (pairs_of c.args.self.now) c.args.pc c.search.result c.search.ensures.exact)

pub returns-clause-none : goal.returns-clause-none
returns-clause-none g c = answer_none (bases_of c.args.bases.now) (table_of c.args.frame.now) (pairs_of c.args.self.now) c.args.pc c.search.result (answer_may (bases_of c.args.bases.now) (table_of c.args.frame.now) (pairs_of c.args.self.now) c.args.pc c.search.result c.search.ensures.exact)

pub returns-clause-fault : goal.returns-clause-fault
returns-clause-fault g c = answer_fault (bases_of c.args.bases.now) (table_of c.args.frame.now) (pairs_of c.args.self.now) c.args.pc c.search.result (answer_may (bases_of c.args.bases.now) (table_of c.args.frame.now) (pairs_of c.args.self.now) c.args.pc c.search.result c.search.ensures.exact)
