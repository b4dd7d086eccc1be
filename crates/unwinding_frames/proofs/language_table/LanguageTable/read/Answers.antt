use Rattle.std.proofs.Common.{refl}
use Rattle.encoded_pointers.specs.PointerViews.{bases_of}
use Rattle.encoded_pointers.specs.CursorViews.{at}
use Rattle.unwind_definitions.specs.LanguageSearch.{head}
use Rattle.unwinding_frames.specs.LanguageViews.{head_of}
use Rattle.unwinding_frames.proofs.Faults.{table_given}
use Rattle.unwinding_frames.proofs.Heads.{types_passed, types_refused}
use Rattle.unwinding_frames.proofs.language_table.LanguageTable.read.Goals as goal

pub returns-in_err-skip_types : goal.returns-in_err-skip_types
returns-in_err-skip_types c =
    table_given head_of _ c.in_err-skip_types.field-0.0 (head c.args.image.now (bases_of c.args.bases.now) c.args.start (at c.args.input)) c.from_residual-in_err-skip_types.ensures.1
    (rw (c.in_ok-pad_base.ensures, types_refused (at c.read_pad_base.new.input) c.in_err-skip_types.field-0.0 c.in_err-skip_types.ensures) refl)

pub returns-in_err-site_encoding : goal.returns-in_err-site_encoding
returns-in_err-site_encoding c =
    let types = types_passed (at c.read_pad_base.new.input) (at c.skip_types.new.input) c.in_ok-skip_types.ensures in
    table_given head_of _ c.in_err-site_encoding.field-0.0 (head c.args.image.now (bases_of c.args.bases.now) c.args.start (at c.args.input)) c.from_residual-in_err-site_encoding.ensures.1
    (rw (c.in_ok-pad_base.ensures, types.1, c.in_err-site_encoding.ensures.reads) refl)

pub returns-in_err-size : goal.returns-in_err-size
returns-in_err-size c =
    let types = types_passed (at c.read_pad_base.new.input) (at c.skip_types.new.input) c.in_ok-skip_types.ensures in
    table_given head_of _ c.in_err-size.field-0.0 (head c.args.image.now (bases_of c.args.bases.now) c.args.start (at c.args.input)) c.from_residual-in_err-size.ensures.1
    (rw (c.in_ok-pad_base.ensures, types.1, c.in_ok-site_encoding.ensures.reads, c.in_err-size.ensures.reads) refl)
