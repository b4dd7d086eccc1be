use Rattle.std.proofs.Common.{sym, ◌∙◌}
use Rattle.eh_frame.specs.EntryViews.{fde_of}
use Rattle.fact_checks.proofs.Unique.{first_contains, none_contains}
use Rattle.fact_checks.proofs.auditing.begin_for.Goals as goal

pub returns-in_default-description_at-clause-listed : goal.returns-in_default-description_at-clause-listed
returns-in_default-description_at-clause-listed c fdes finds listed fde has = none_contains fdes fde c.args.pc (sym (c.in_default-description_at.ensures.found ∙ finds c.args.pc)) has

pub returns-in-Some-description_at-clause-listed : goal.returns-in-Some-description_at-clause-listed
returns-in-Some-description_at-clause-listed c fdes finds listed = first_contains fdes (fde_of c.in-Some-description_at.fde) c.args.pc (sym (c.in-Some-description_at.ensures.found ∙ finds c.args.pc))
