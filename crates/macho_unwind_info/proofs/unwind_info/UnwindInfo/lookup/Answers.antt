use Rattle.macho_unwind_info.proofs.Covering.{inside, each, outside}
use Rattle.macho_unwind_info.proofs.unwind_info.UnwindInfo.lookup.Goals as goal

pub returns-clause-inside : goal.returns-clause-inside
returns-clause-inside c are range = inside c.args.self.now c.args.pc c.search.result are c.search.ensures.answer range

pub returns-clause-each : goal.returns-clause-each
returns-clause-each c are = each c.args.self.now c.args.pc c.search.result are c.search.ensures.answer

pub returns-clause-outside : goal.returns-clause-outside
returns-clause-outside c are out = outside c.args.self.now c.args.pc c.search.result are c.search.ensures.answer out
