use Rattle.std.proofs.Common.{◌≡◌, sym, ap, subst, ◌∙◌, Result, Ok, Err}
use Rattle.unwind_definitions.specs.declared.error.Error.{Error as Fault}
use Rattle.unwind_definitions.specs.Entries.{Fde}
use Rattle.unwind_definitions.specs.Row.{row_at}
use Rattle.encoded_pointers.specs.PointerViews.{bases_of}
use Rattle.frame_rows.specs.Rows.{GivesRow}
use Rattle.frame_rows.specs.RowValue.{RowValue}
use Rattle.eh_frame.specs.Index.{shown_answer}
use Rattle.eh_frame.specs.EntryViews.{table_of}
use Rattle.stack_steps.proofs.IndexFinds.{none_shown, seen_by, shown_row, shown_fault}
use Rattle.stack_steps.proofs.frame_cache.found_row.Goals as goal

pub returns-in_default-clause-row : goal.returns-in_default-clause-row
returns-in_default-clause-row g c image tables laid is =
    let scanned = c.frame.ensures.scan (bases_of c.args.table.now.bases) (table_of c.args.table.now.frames) is.prepared in
    none_shown image tables c.args.table.now c.args.address laid is (scanned ∙ ap shown_answer c.in_default.is)

pub returns-in-Err-clause-row : goal.returns-in-Err-clause-row
returns-in-Err-clause-row g c image tables laid is =
    let t = c.args.table.now in
    let frame = c.in-Some.frame in
    let scanned = c.in-Some.ensures.scan (bases_of t.bases) (table_of t.frames) is.prepared in
    let gives = c.in-Some.ensures.row (bases_of t.bases) (table_of t.frames) is.prepared in
    let fault = c.in-Err.fault in
    let at : frame.row ≡ Err fault = sym c.into_row.ensures ∙ c.in-Err.is in
    let due = subst (λ (r : Result RowValue Fault). GivesRow r (row_at (bases_of t.bases) frame.fde c.args.address)) at gives in
    shown_fault image tables t c.args.address frame.fde fault laid is scanned due

pub returns-in-Ok-clause-row : goal.returns-in-Ok-clause-row
returns-in-Ok-clause-row g c image tables laid is =
    let t = c.args.table.now in
    let frame = c.in-Some.frame in
    let scanned = c.in-Some.ensures.scan (bases_of t.bases) (table_of t.frames) is.prepared in
    let gives = c.in-Some.ensures.row (bases_of t.bases) (table_of t.frames) is.prepared in
    let lent : frame.row ≡ Ok c.in-Ok.row = sym c.into_row.ensures ∙ c.in-Ok.is in
    let made = subst (λ (r : Result RowValue Fault). GivesRow r (row_at (bases_of t.bases) frame.fde c.args.address)) lent gives in
    record {
      frame = record { found = seen_by t frame.fde; run = made.0 };
      is_due = shown_row image tables t c.args.address frame.fde made.0 laid is scanned made.1;
      row = made.2;
      start = c.initial_address-start.ensures ∙ ap (λ (f : Fde). f.start) c.fde.ensures;
      signal = c.is_signal_trampoline-signal.ensures;
    }
