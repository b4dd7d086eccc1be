use Rattle.std.proofs.Common.{◌≡◌, sym, ap, subst, ◌∙◌, Result, Ok, refl}
use Rattle.std.specs.Result.{result_map_both}
use Rattle.unwind_definitions.specs.declared.error.Error.{Error as Fault}
use Rattle.unwind_definitions.specs.Row.{row_at}
use Rattle.encoded_pointers.specs.PointerViews.{bases_of}
use Rattle.frame_rows.specs.Rows.{GivesRow}
use Rattle.frame_rows.specs.RowValue.{RowValue}
use Rattle.eh_frame.specs.Index.{shown_answer}
use Rattle.eh_frame.specs.EntryViews.{table_of}
use Rattle.stack_steps.specs.FrameViews.{IsKeptRow}
use Rattle.stack_steps.specs.Frames.{Described}
use Rattle.stack_steps.proofs.IndexFinds.{none_shown, seen_by, shown_row, shown_fault}
use Rattle.stack_steps.proofs.elf.prepared_frame.Goals as goal

pub returns-in_default-clause-frame : goal.returns-in_default-clause-frame
returns-in_default-clause-frame g c image tables laid is =
    let scanned = c.frame.ensures.scan (bases_of c.args.table.now.bases) (table_of c.args.table.now.frames) is.prepared in
    none_shown image tables c.args.table.now c.args.address laid is (scanned ∙ ap shown_answer c.in_default.is)

pub returns-in-Err-clause-frame : goal.returns-in-Err-clause-frame
returns-in-Err-clause-frame g c image tables laid is =
    let t = c.args.table.now in
    let frame = c.in-Some.frame in
    let scanned = c.in-Some.ensures.scan (bases_of t.bases) (table_of t.frames) is.prepared in
    let gives = c.in-Some.ensures.row (bases_of t.bases) (table_of t.frames) is.prepared in
    let fault = c.in-Err.fault in
    let at = sym c.row.ensures ∙ ap (result_map_both (λ row. row.now) (λ e. e)) c.in-Err.is in
    let due = subst (λ (r : Result RowValue Fault). GivesRow r (row_at (bases_of t.bases) frame.fde c.args.address)) at gives in
    shown_fault image tables t c.args.address frame.fde fault laid is scanned due

pub returns-in-Ok-clause-frame : goal.returns-in-Ok-clause-frame
returns-in-Ok-clause-frame g c image tables laid is =
    let t = c.args.table.now in
    let frame = c.in-Some.frame in
    let scanned = c.in-Some.ensures.scan (bases_of t.bases) (table_of t.frames) is.prepared in
    let gives = c.in-Some.ensures.row (bases_of t.bases) (table_of t.frames) is.prepared in
    let lent : frame.row ≡ Ok c.in-Ok.field-0.now = sym c.row.ensures ∙ ap (result_map_both (λ row. row.now) (λ e. e)) c.in-Ok.is in
    let made = subst (λ (r : Result RowValue Fault). GivesRow r (row_at (bases_of t.bases) frame.fde c.args.address)) lent gives in (
      Described (record { found = seen_by t frame.fde; run = made.0 }),
      shown_row image tables t c.args.address frame.fde made.0 laid is scanned made.1,
      (refl, subst (λ (r : Result RowValue Fault). IsKeptRow r made.0) (sym lent) made.2),
    )
