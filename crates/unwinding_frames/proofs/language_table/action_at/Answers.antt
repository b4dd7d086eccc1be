use Rattle.std.proofs.Common.{sym, ◌∙◌}
use Rattle.std.proofs.lemmas.Result.{err_from_is_err_and}
use Rattle.unwind_definitions.specs.LanguageTable.{input_at}
use Rattle.encoded_pointers.specs.PointerViews.{bases_of}
use Rattle.encoded_pointers.specs.CursorViews.{at}
use Rattle.unwinding_frames.specs.Calling.{fault_of}
use Rattle.unwinding_frames.specs.LanguageViews.{head_of}
use Rattle.unwinding_frames.proofs.Sites.{head_fault, head_read}
use Rattle.unwinding_frames.proofs.language_table.action_at.Goals as goal

pub returns-in_err-table : goal.returns-in_err-table
returns-in_err-table c =
    let p = err_from_is_err_and c.from_residual.result c.from_residual.ensures.1 in
    rw (p.1, p.2) (sym (head_fault c.args.image.now (bases_of c.args.bases.now) c.args.start c.args.address (at c.input_at.result) (input_at c.args.image.now c.args.table) c.input_at.ensures
    (fault_of c.in_err-table.field-0.0) (sym c.in_err-table.ensures)))

pub returns : goal.returns
returns c =
    c.search.ensures ∙ sym (head_read c.args.image.now (bases_of c.args.bases.now) c.args.start c.args.address (at c.input_at.result) (input_at c.args.image.now c.args.table) c.input_at.ensures
    (head_of c.in_ok-table.table) (sym c.in_ok-table.ensures))
