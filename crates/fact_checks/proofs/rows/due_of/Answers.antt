use Rattle.std.proofs.Common.{◌≡◌}
use Rattle.unwind_definitions.specs.State.{RBX, RBP, R12, R13, R14, R15, column_of}
use Rattle.fact_checks.proofs.Asked.{register_asked}
use Rattle.fact_checks.proofs.rows.due_of.Goals as goal

pub returns-in-3 : goal.returns-in-3
returns-in-3 c rule = let is = c.in-3.is in let at : c.args.column.0 ≡ column_of RBX = cc in register_asked c.args.known.now RBX c.args.column.0 at rule

pub returns-in-6 : goal.returns-in-6
returns-in-6 c rule = let is = c.in-6.is in let at : c.args.column.0 ≡ column_of RBP = cc in register_asked c.args.known.now RBP c.args.column.0 at rule

pub returns-in-12 : goal.returns-in-12
returns-in-12 c rule = let is = c.in-12.is in let at : c.args.column.0 ≡ column_of R12 = cc in register_asked c.args.known.now R12 c.args.column.0 at rule

pub returns-in-13 : goal.returns-in-13
returns-in-13 c rule = let is = c.in-13.is in let at : c.args.column.0 ≡ column_of R13 = cc in register_asked c.args.known.now R13 c.args.column.0 at rule

pub returns-in-14 : goal.returns-in-14
returns-in-14 c rule = let is = c.in-14.is in let at : c.args.column.0 ≡ column_of R14 = cc in register_asked c.args.known.now R14 c.args.column.0 at rule

pub returns-in-15 : goal.returns-in-15
returns-in-15 c rule = let is = c.in-15.is in let at : c.args.column.0 ≡ column_of R15 = cc in register_asked c.args.known.now R15 c.args.column.0 at rule
