use Rattle.std.proofs.Common.{◌≡◌, false, map, sym, ◌∙◌}
use Rattle.std.specs.Prelude.{is_some}
use Rattle.unwind_definitions.specs.Scan.{fdes_of}
use Rattle.eh_frame.specs.EntryViews.{fde_of}
use Rattle.fde_finders.specs.NamedTables.{named_of}
use Rattle.table_check.specs.ClaimViews.{function_of}
use Rattle.table_check.proofs.Taking.{as_none, if_none, stands_on}
use Rattle.table_check.proofs.findings.Findings.take_description.Goals as goal

pub returns-clause-tells : goal.returns-clause-tells
returns-clause-tells c before at next count many read there told =
    let image = c.args.image.now in
    let t = named_of c.args.table.now in
    let fs = map function_of c.args.claims.now in
    let fde = fde_of c.args.fde.now in
    let self = c.args.self.now in
    let none : is_some self.extra ≡ false = sym c.is_some.ensures ∙ c.if-is_some.false in
    let s = if_none _ _ self.extra none told in
    let may = (c.may_stand.ensures before at count read s.ends).0 c.if-not-may_stand.false in
    as_none _ _ self.extra none
    (stands_on image t fs c.args.claims.now c.note-self.new.claims before fde self.highest c.later_end-self.result self.listed c.take.new.self s may c.later_end-self.ensures.higher c.later_end-self.ensures.end
    (c.note-self.ensures.marks _ s.marks) (c.take.ensures (fdes_of before) many s.listed))
