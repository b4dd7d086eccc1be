use Rattle.std.proofs.Common.{Some, refl, ap, subst, sym}
use Rattle.frame_rows.specs.RowValue.{RowValue}
use Rattle.frame_rows.specs.Rows.{IsRowOf}
use Rattle.fde_finders.specs.FoundViews.{found_fde_of}
use Rattle.stack_steps.specs.Frames.{Described}
use Rattle.stack_steps.proofs.StepParts.{frame_found}
use Rattle.stack_steps.proofs.elf.described_frame.Goals as goal

pub returns-in-Ok : goal.returns-in-Ok
returns-in-Ok c =
    let made = rw c.in-Ok.is at c.make_row.ensures.row in (
      Described (record { found = found_fde_of c.args.found; run = made.0 }),
      frame_found c.args.address (Some (found_fde_of c.args.found)) (found_fde_of c.args.found) made.0 refl made.1,
      (ap found_fde_of c.lent_place.ensures, subst (λ (row : RowValue). IsRowOf row made.0) (sym c.row.ensures) made.2),
    )
