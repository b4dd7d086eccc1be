use Rattle.std.proofs.Common.{ℕ, ◌∙◌, sym, ap, Some}
use Rattle.mapped_names.proofs.Lists.{address_here, address_later}
use Rattle.mapped_names.proofs.places.address_by.Goals as goal

pub returns-then-has_code_at : goal.returns-then-has_code_at
returns-then-has_code_at c =
    ap (λ (n : ℕ). Some n) c.address_with.ensures ∙ sym (address_here c.args.position c.args.headers.now c.loop-i.i c.at-header.result c.at-header.ensures (sym c.has_code_at.ensures ∙ c.if-has_code_at.true)) ∙ c.loop-i.invariant

pub loop-i-preserved : goal.loop-i-preserved
loop-i-preserved c = sym (address_later c.args.position c.args.headers.now c.loop-i.i c.at-header.result c.at-header.ensures (sym c.has_code_at.ensures ∙ c.if-has_code_at.false)) ∙ c.loop-i.invariant
