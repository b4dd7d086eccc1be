-- The row of a description is that of its two programs.
use Rattle.std.proofs.Common.{◌≡◌, ℕ, true, cond, Result, Err, sym, subst}
use Rattle.unwind_definitions.specs.declared.error.Error.TheVariants.{NoUnwindInfoForAddress}
use Rattle.unwind_definitions.specs.declared.error.Error.{Error as Fault}
use Rattle.unwind_definitions.specs.Input.{Input}
use Rattle.unwind_definitions.specs.Pointers.{Bases}
use Rattle.unwind_definitions.specs.Entries.{Fde, coding_of}
use Rattle.unwind_definitions.specs.Instructions.{Coding, program}
use Rattle.unwind_definitions.specs.Row.{row, row_at, covers_pc}
use Rattle.frame_rows.specs.RowValue.{RowValue}
use Rattle.frame_rows.specs.Rows.{GivesRow}

-- the row of a description, at an address that it contains
pub of_description : (bases : Bases) (fde : Fde) (pc : ℕ) (result : Result RowValue Fault) (coding : Coding) (common own : Input) → covers_pc fde pc ≡ true → coding ≡ coding_of bases fde.cie → common ≡ fde.cie.program → own ≡ fde.program →
    GivesRow result (row fde.start pc (program coding common) (program coding own)) → GivesRow result (row_at bases fde pc)
unfolding row_at
of_description bases fde pc result coding common own covers coded first second made =
    subst (λ b. GivesRow result (cond b (row fde.start pc (program (coding_of bases fde.cie) fde.cie.program) (program (coding_of bases fde.cie) fde.program)) (Err NoUnwindInfoForAddress))) (sym covers)
    (subst (λ k. GivesRow result (row fde.start pc (program k fde.cie.program) (program k fde.program))) coded
    (subst (λ i. GivesRow result (row fde.start pc (program coding i) (program coding fde.program))) first
    (subst (λ i. GivesRow result (row fde.start pc (program coding common) (program coding i))) second made)))
