use Rattle.std.proofs.Common.{refl, sym, ◌∙◌}
use Rattle.std.proofs.lemmas.Result.{err_from_is_err_and}
use Rattle.unwind_definitions.specs.Pointers.{Bases}
use Rattle.encoded_pointers.specs.PointerViews.{bases_of}
use Rattle.encoded_pointers.specs.CursorViews.{at}
use Rattle.eh_frame.specs.Letters.{letters_of}
use Rattle.eh_frame.proofs.CieParts.{cie_after, cie_whole}
use Rattle.eh_frame.proofs.cie.Cie.read.Goals as goal

pub returns-in_err-letters : goal.returns-in_err-letters
returns-in_err-letters c =
    let bases : Bases = bases_of c.args.bases.now in
    let p = err_from_is_err_and c.from_residual-in_err-letters.result c.from_residual-in_err-letters.ensures.1 in
    let step = cie_after bases c.args.offset _ _ _ _ _ _ _ _ _ _ _ _ (sym c.if-not-is_known_version.ensures) (sym c.if-not-is_known.ensures)
    c.in_ok-version.ensures.reads c.in_ok-augmentation.ensures.reads c.in_ok-check_sizes.ensures c.in_ok-code_alignment.ensures.reads c.in_ok-data_alignment.ensures.reads c.in_ok-return_column.ensures in
    rw (p.1, p.2) (step ∙ rw c.in_err-letters.ensures.reads refl)

pub returns : goal.returns
returns c =
    cie_whole (bases_of c.args.bases.now) c.args.offset (at c.args.body) _ _ _ _ _ _ (at c.read_augmentation_data.new.input)
    c.in_ok-version.version c.in_ok-code_alignment.code_alignment c.in_ok-data_alignment.data_alignment c.in_ok-return_column.return_column.0 c.in_ok-augmentation.augmentation.now
    (letters_of c.in_ok-letters.letters)
    (sym c.if-not-is_known_version.ensures) (sym c.if-not-is_known.ensures)
    c.in_ok-version.ensures.reads c.in_ok-augmentation.ensures.reads c.in_ok-check_sizes.ensures c.in_ok-code_alignment.ensures.reads c.in_ok-data_alignment.ensures.reads c.in_ok-return_column.ensures
    c.in_ok-letters.ensures.reads
