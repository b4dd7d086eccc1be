use Rattle.std.proofs.Common.{◌∙◌, sym}
use Rattle.mapped_modules.specs.Places.{is_sought}
use Rattle.mapped_modules.proofs.Firsts.{first_here, first_later}
use Rattle.mapped_modules.proofs.places.first_header.Goals as goal

pub returns-then-is : goal.returns-then-is
returns-then-is c = sym (first_here (is_sought c.args.sought) c.args.headers.now c.loop-i.i c.at-header.result c.at-header.ensures (sym c.is.ensures ∙ c.if-is.true)) ∙ c.loop-i.invariant

pub loop-i-preserved : goal.loop-i-preserved
loop-i-preserved c = sym (first_later (is_sought c.args.sought) c.args.headers.now c.loop-i.i c.at-header.result c.at-header.ensures (sym c.is.ensures ∙ c.if-is.false)) ∙ c.loop-i.invariant
