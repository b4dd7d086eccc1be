use Rattle.std.proofs.Common.{◌∙◌, sym, eq-eqb}
use Rattle.std.proofs.lemmas.Bool.{ne_eqb}
use Rattle.elf_symbols.proofs.Tables.{type_here, type_later}
use Rattle.elf_symbols.proofs.section.first_of_type.Goals as goal

pub returns-then-header-kind : goal.returns-then-header-kind
returns-then-header-kind c = sym (type_here c.args.kind c.args.headers.now c.loop-i.i c.at-header.result c.at-header.ensures (eq-eqb _ _ c.if-header-kind.true)) ∙ c.loop-i.invariant

pub loop-i-preserved : goal.loop-i-preserved
loop-i-preserved c = sym (type_later c.args.kind c.args.headers.now c.loop-i.i c.at-header.result c.at-header.ensures (ne_eqb _ _ c.if-header-kind.false)) ∙ c.loop-i.invariant
