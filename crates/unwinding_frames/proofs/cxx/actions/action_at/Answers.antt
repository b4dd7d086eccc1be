use Rattle.std.proofs.Common.{sym, ◌∙◌}
use Rattle.std.specs.Option.{option_map}
use Rattle.std.proofs.lemmas.Result.{err_from_is_err_and}
use Rattle.unwind_definitions.specs.LanguageTable.{input_at}
use Rattle.encoded_pointers.specs.PointerViews.{bases_of}
use Rattle.encoded_pointers.specs.CursorViews.{at}
use Rattle.unwinding_frames.specs.Calling.{fault_of}
use Rattle.unwinding_frames.specs.LanguageViews.{site_of}
use Rattle.unwinding_frames.specs.CxxViews.{exception_of, table_of}
use Rattle.unwinding_frames.proofs.CxxSearches.{same_error, table_fault, site_fault, decided}
use Rattle.unwinding_frames.proofs.cxx.actions.action_at.Goals as goal

pub returns-in_err-table : goal.returns-in_err-table
returns-in_err-table c =
    let p = err_from_is_err_and c.from_residual.result c.from_residual.ensures.1 in
    rw (p.1, p.2, same_error c.in_err-table.field-0.0) (sym (table_fault c.args.image.now (bases_of c.args.bases.now) (exception_of c.args.exception) c.args.start c.args.address (at c.input_at.result) (input_at c.args.image.now c.args.table) c.input_at.ensures
    (fault_of c.in_err-table.field-0.0) (sym c.in_err-table.ensures)))

pub returns-in_err-site : goal.returns-in_err-site
returns-in_err-site c =
    let p = err_from_is_err_and c.from_residual-in_err-site.result c.from_residual-in_err-site.ensures.1 in
    rw (p.1, p.2, same_error c.in_err-site.field-0.0) (sym (site_fault c.args.image.now (bases_of c.args.bases.now) (exception_of c.args.exception) c.args.start c.args.address (at c.input_at.result) (input_at c.args.image.now c.args.table) c.input_at.ensures
    (table_of c.in_ok-table.table) (sym c.in_ok-table.ensures) (fault_of c.in_err-site.field-0.0) (sym c.in_err-site.ensures)))

pub returns : goal.returns
returns c =
    c.site_action.ensures ∙ sym (decided c.args.image.now (bases_of c.args.bases.now) (exception_of c.args.exception) c.args.start c.args.address (at c.input_at.result) (input_at c.args.image.now c.args.table) c.input_at.ensures
    (table_of c.in_ok-table.table) (sym c.in_ok-table.ensures) (option_map site_of c.in_ok-site.site) (sym c.in_ok-site.ensures))
