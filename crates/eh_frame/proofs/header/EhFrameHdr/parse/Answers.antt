use Rattle.std.proofs.lemmas.Result.{err_from_is_err_and}
use Rattle.encoded_pointers.specs.CursorViews.{at}
use Rattle.encoded_pointers.specs.PointerViews.{bases_of, pointer_of}
use Rattle.eh_frame.proofs.HeaderParts.{version_read, no_encoding, no_pointer, no_count, whole_header}
use Rattle.eh_frame.proofs.header.EhFrameHdr.parse.Goals as goal

pub returns-in_err-encoding : goal.returns-in_err-encoding
returns-in_err-encoding c =
    let p = err_from_is_err_and c.from_residual-in_err-encoding.result c.from_residual-in_err-encoding.ensures.1 in
    let version = version_read c.args.address c.args.bytes.now (at c.new-input.result) (at c.read_u8.new.self) c.in_ok-read_u8.field-0 c.new-input.ensures c.if-branch-ne-VERSION.false c.in_ok-read_u8.ensures.reads in
    rw (p.1, p.2) (no_encoding (bases_of c.args.bases.now) c.args.address c.args.bytes.now (at c.read_u8.new.self) (at c.parse_pointer_encoding.new.input) (at c.parse_pointer_encoding-2.new.input)
    c.in_ok-pointer_encoding.pointer_encoding.0 c.in_ok-count_encoding.count_encoding.0 version c.in_ok-pointer_encoding.ensures.reads c.in_ok-count_encoding.ensures.reads _ c.in_err-encoding.ensures.reads)

pub returns-in_err-eh_frame_ptr : goal.returns-in_err-eh_frame_ptr
returns-in_err-eh_frame_ptr c =
    let p = err_from_is_err_and c.from_residual-in_err-eh_frame_ptr.result c.from_residual-in_err-eh_frame_ptr.ensures.1 in
    let version = version_read c.args.address c.args.bytes.now (at c.new-input.result) (at c.read_u8.new.self) c.in_ok-read_u8.field-0 c.new-input.ensures c.if-branch-ne-VERSION.false c.in_ok-read_u8.ensures.reads in
    rw (p.1, p.2) (no_pointer (bases_of c.args.bases.now) c.args.address c.args.bytes.now (at c.read_u8.new.self) (at c.parse_pointer_encoding.new.input) (at c.parse_pointer_encoding-2.new.input)
    c.in_ok-pointer_encoding.pointer_encoding.0 c.in_ok-count_encoding.count_encoding.0 version c.in_ok-pointer_encoding.ensures.reads c.in_ok-count_encoding.ensures.reads (at c.parse_pointer_encoding-3.new.input)
    c.in_ok-encoding.encoding.0 c.in_ok-encoding.ensures.reads _ c.in_err-eh_frame_ptr.ensures.reads)

pub returns-in_err-count : goal.returns-in_err-count
returns-in_err-count c =
    let p = err_from_is_err_and c.from_residual-in_err-count.result c.from_residual-in_err-count.ensures.1 in
    let version = version_read c.args.address c.args.bytes.now (at c.new-input.result) (at c.read_u8.new.self) c.in_ok-read_u8.field-0 c.new-input.ensures c.if-branch-ne-VERSION.false c.in_ok-read_u8.ensures.reads in
    rw (p.1, p.2) (no_count (bases_of c.args.bases.now) c.args.address c.args.bytes.now (at c.read_u8.new.self) (at c.parse_pointer_encoding.new.input) (at c.parse_pointer_encoding-2.new.input)
    c.in_ok-pointer_encoding.pointer_encoding.0 c.in_ok-count_encoding.count_encoding.0 version c.in_ok-pointer_encoding.ensures.reads c.in_ok-count_encoding.ensures.reads (at c.parse_pointer_encoding-3.new.input)
    c.in_ok-encoding.encoding.0 c.in_ok-encoding.ensures.reads (at c.parse_encoded_pointer.new.input) (pointer_of c.in_ok-eh_frame_ptr.eh_frame_ptr) c.in_ok-eh_frame_ptr.ensures.reads _ c.in_err-count.ensures)

pub returns : goal.returns
returns c =
    let version = version_read c.args.address c.args.bytes.now (at c.new-input.result) (at c.read_u8.new.self) c.in_ok-read_u8.field-0 c.new-input.ensures c.if-branch-ne-VERSION.false c.in_ok-read_u8.ensures.reads in
    whole_header (bases_of c.args.bases.now) c.args.address c.args.bytes.now (at c.read_u8.new.self) (at c.parse_pointer_encoding.new.input) (at c.parse_pointer_encoding-2.new.input)
    c.in_ok-pointer_encoding.pointer_encoding.0 c.in_ok-count_encoding.count_encoding.0 version c.in_ok-pointer_encoding.ensures.reads c.in_ok-count_encoding.ensures.reads (at c.parse_pointer_encoding-3.new.input)
    c.in_ok-encoding.encoding.0 c.in_ok-encoding.ensures.reads (at c.parse_encoded_pointer.new.input) (pointer_of c.in_ok-eh_frame_ptr.eh_frame_ptr) c.in_ok-eh_frame_ptr.ensures.reads
    (at c.read_count.new.input) c.in_ok-count.count c.in_ok-count.ensures
