use Rattle.std.proofs.Common.{inr}
use Rattle.unwind_definitions.specs.Scan.{fdes_of}
use Rattle.fde_finders.specs.NamedTables.{named_of}
use Rattle.table_check.proofs.Answering.{apart, it_stands, listed, marks}
use Rattle.table_check.proofs.Deciding.{decides_not}
use Rattle.table_check.proofs.verdict.refusal_of_found.Goals as goal

pub returns-in-Some-first_missing : goal.returns-in-Some-first_missing
returns-in-Some-first_missing c text named f =
    let image = c.args.image.now in
    let t = named_of c.args.table.now in
    let none = c.in_default.is in
    inr (it_stands image t _ c.args.claims.now c.args.found.now f none _ (c.in-Some-first_missing.ensures image t.bases (fdes_of f.entries) (marks image t _ c.args.claims.now c.args.found.now f none)))

pub returns-in-Some-first_other_program : goal.returns-in-Some-first_other_program
returns-in-Some-first_other_program c text named f =
    let image = c.args.image.now in
    let t = named_of c.args.table.now in
    let none = c.in_default.is in
    let fdes = fdes_of f.entries in
    let marked = marks image t _ c.args.claims.now c.args.found.now f none in
    let described = c.in_default-first_missing.ensures image t.bases fdes marked in
    inr (it_stands image t _ c.args.claims.now c.args.found.now f none _ (described, c.in-Some-first_other_program.ensures image t.bases fdes (apart image t _ c.args.claims.now c.args.found.now f none) marked described))

pub returns-in-Some-first_other_sites : goal.returns-in-Some-first_other_sites
returns-in-Some-first_other_sites c text named f =
    let image = c.args.image.now in
    let t = named_of c.args.table.now in
    let none = c.in_default.is in
    let fdes = fdes_of f.entries in
    let alone = apart image t _ c.args.claims.now c.args.found.now f none in
    let marked = marks image t _ c.args.claims.now c.args.found.now f none in
    let described = c.in_default-first_missing.ensures image t.bases fdes marked in
    inr (it_stands image t _ c.args.claims.now c.args.found.now f none _ (c.in_default-first_other_program.ensures image t.bases fdes alone marked described, c.in-Some-first_other_sites.ensures image t.bases fdes alone marked described))

pub returns-then-lists_descriptions : goal.returns-then-lists_descriptions
returns-then-lists_descriptions c text named f =
    let image = c.args.image.now in
    let t = named_of c.args.table.now in
    let none = c.in_default.is in
    let fdes = fdes_of f.entries in
    let alone = apart image t _ c.args.claims.now c.args.found.now f none in
    let marked = marks image t _ c.args.claims.now c.args.found.now f none in
    let described = c.in_default-first_missing.ensures image t.bases fdes marked in
    it_stands image t _ c.args.claims.now c.args.found.now f none _ (record {
      code = c.in_default-first_other_program.ensures image t.bases fdes alone marked described;
      sites = c.in_default-first_other_sites.ensures image t.bases fdes alone marked described;
      listed = (c.lists_descriptions.ensures text fdes named alone f.count (listed image t _ c.args.claims.now c.args.found.now f none)).0 c.if-lists_descriptions.true;
    })

pub returns-else-lists_descriptions : goal.returns-else-lists_descriptions
returns-else-lists_descriptions c text named f =
    let image = c.args.image.now in
    let t = named_of c.args.table.now in
    let none = c.in_default.is in
    let fdes = fdes_of f.entries in
    let alone = apart image t _ c.args.claims.now c.args.found.now f none in
    let marked = marks image t _ c.args.claims.now c.args.found.now f none in
    let described = c.in_default-first_missing.ensures image t.bases fdes marked in
    inr (it_stands image t _ c.args.claims.now c.args.found.now f none _ (
      c.in_default-first_other_program.ensures image t.bases fdes alone marked described,
      c.in_default-first_other_sites.ensures image t.bases fdes alone marked described,
      decides_not c.lists_descriptions.result (c.lists_descriptions.ensures text fdes named alone f.count (listed image t _ c.args.claims.now c.args.found.now f none)) c.if-lists_descriptions.false,
    ))
