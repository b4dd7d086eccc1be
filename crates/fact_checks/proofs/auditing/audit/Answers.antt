use Rattle.std.proofs.Common.{map, sym}
use Rattle.fde_finders.specs.NamedTables.{named_of}
use Rattle.fact_checks.specs.ClaimViews.{claim_of}
use Rattle.fact_checks.proofs.Answered.{audited_by, exact_by, facts_by, said_by}
use Rattle.fact_checks.proofs.Left.{in_order}
use Rattle.fact_checks.proofs.auditing.audit.Goals as goal

pub differences_in-requires-clause-order : goal.differences_in-requires-clause-order
differences_in-requires-clause-order c = in_order 0 (map claim_of c.args.claims.now) (sym c.in_default.ensures)

pub returns-clause-order : goal.returns-clause-order
returns-clause-order c = in_order 0 (map claim_of c.args.claims.now) (sym c.in_default.ensures)

pub returns-clause-audited : goal.returns-clause-audited
returns-clause-audited c start end d =
    audited_by c.args.image.now c.laid_out.ensures c.args.frame (named_of c.in-Some-named_table.table) (sym c.in-Some-named_table.ensures) (map claim_of c.args.claims.now) c.in_ok-differences_in.field-0.items
    c.in_ok-differences_in.ensures start end d

pub returns-clause-exact : goal.returns-clause-exact
returns-clause-exact c start end d i claim at =
    exact_by c.args.image.now c.laid_out.ensures c.args.frame (named_of c.in-Some-named_table.table) (sym c.in-Some-named_table.ensures) (map claim_of c.args.claims.now) c.in_ok-differences_in.field-0.items
    c.in_ok-differences_in.ensures start end d (in_order 0 (map claim_of c.args.claims.now) (sym c.in_default.ensures)) i claim at

pub returns-clause-said : goal.returns-clause-said
returns-clause-said c start end says =
    said_by c.args.image.now c.laid_out.ensures c.args.frame (named_of c.in-Some-named_table.table) (sym c.in-Some-named_table.ensures) (map claim_of c.args.claims.now) c.in_ok-differences_in.field-0.items
    c.in_ok-differences_in.ensures start end says.tables (in_order 0 (map claim_of c.args.claims.now) (sym c.in_default.ensures)) says.each

pub returns-clause-facts : goal.returns-clause-facts
returns-clause-facts c start end i a claim d at none inside =
    facts_by c.args.image.now c.laid_out.ensures c.args.frame (named_of c.in-Some-named_table.table) (sym c.in-Some-named_table.ensures) (map claim_of c.args.claims.now) c.in_ok-differences_in.field-0.items
    c.in_ok-differences_in.ensures start end d i a claim at none inside
