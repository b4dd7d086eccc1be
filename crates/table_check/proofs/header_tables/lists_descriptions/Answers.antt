use Rattle.std.proofs.Common.{◌≡◌, Some, sym, ap, subst, ◌∙◌, take}
use Rattle.std.specs.Bool.{Decides}
use Rattle.unwind_definitions.specs.Module.{HeaderLists}
use Rattle.fde_finders.specs.declared.custom.FrameInfoKind.{FrameInfoKind}
use Rattle.fde_finders.specs.FrameTables.{table_by_kind}
use Rattle.fde_finders.specs.NamedTables.{named_of}
use Rattle.table_check.specs.Modules.{tables_of}
use Rattle.table_check.proofs.NamedTables.{form_decides}
use Rattle.table_check.proofs.header_tables.lists_descriptions.Goals as goal

pub returns-then-has_form : goal.returns-then-has_form
returns-then-has_form c text fdes is apart count listed =
    let image = c.args.image.now in
    let t = named_of c.args.table.now in
    let kind = c.in-EhFrameHdr.is in
    let named = subst (λ (k : FrameInfoKind). table_by_kind text k image ≡ Some t) kind is in
    let form = ap (take 4) (sym c.bytes_from.ensures.held) ∙ c.has_form.ensures.0 c.if-has_form.true in
    subst (λ (k : FrameInfoKind). Decides c.lists_all.result (HeaderLists image (tables_of k) t.entries.base fdes)) (sym kind)
    (form_decides text image c.in-EhFrameHdr.header t named fdes apart form c.lists_all.result (c.lists_all.ensures t.entries.base fdes count listed))
