use Rattle.unwind_definitions.specs.Pointers.{Bases}
use Rattle.encoded_pointers.specs.PointerViews.{bases_of}
use Rattle.std.proofs.Common.{sym, arith}
use Rattle.std.proofs.lemmas.Result.{err_from_is_err_and}
use Rattle.eh_frame.proofs.FdeParts.{no_start, no_len, overflows, no_data, whole_fde}
use Rattle.encoded_pointers.specs.CursorViews.{at}
use Rattle.eh_frame.specs.EntryViews.{cie_of}
use Rattle.eh_frame.proofs.indexed_fde.IndexedFde.read.Goals as goal

pub returns-in_err-initial_address-clause-reads : goal.returns-in_err-initial_address-clause-reads
returns-in_err-initial_address-clause-reads c =
    let bases : Bases = bases_of c.args.bases.now in
    let p = err_from_is_err_and c.from_residual.result c.from_residual.ensures.1 in
    rw (p.1, p.2) (no_start bases (cie_of c.args.cie.now) c.args.offset (at c.args.body) _ (sym c.start_encoding-encoding.ensures) _
    c.in_err-initial_address.ensures)

pub returns-in_err-len-clause-reads : goal.returns-in_err-len-clause-reads
returns-in_err-len-clause-reads c =
    let bases : Bases = bases_of c.args.bases.now in
    let p = err_from_is_err_and c.from_residual-in_err-len.result c.from_residual-in_err-len.ensures.1 in
    rw (p.1, p.2) (no_len bases (cie_of c.args.cie.now) c.args.offset (at c.args.body) _ (sym c.start_encoding-encoding.ensures)
    c.in_ok-initial_address.initial_address (at c.read_start.new.input) c.in_ok-initial_address.ensures _ c.in_err-len.ensures)

pub returns-then-len-initial_address-clause-reads : goal.returns-then-len-initial_address-clause-reads
returns-then-len-initial_address-clause-reads c =
    let bases : Bases = bases_of c.args.bases.now in
    overflows bases (cie_of c.args.cie.now) c.args.offset (at c.args.body) _ (sym c.start_encoding-encoding.ensures)
    c.in_ok-initial_address.initial_address (at c.read_start.new.input) c.in_ok-initial_address.ensures
    c.in_ok-len.len (at c.read_len.new.input) c.in_ok-len.ensures (omega arith)

pub returns-in_err-lsda-clause-reads : goal.returns-in_err-lsda-clause-reads
returns-in_err-lsda-clause-reads c =
    let bases : Bases = bases_of c.args.bases.now in
    let p = err_from_is_err_and c.from_residual-in_err-lsda.result c.from_residual-in_err-lsda.ensures.1 in
    rw (p.1, p.2) (no_data bases (cie_of c.args.cie.now) c.args.offset (at c.args.body) _ (sym c.start_encoding-encoding.ensures)
    c.in_ok-initial_address.initial_address (at c.read_start.new.input) c.in_ok-initial_address.ensures
    c.in_ok-len.len (at c.read_len.new.input) c.in_ok-len.ensures (omega arith) _
    c.in_err-lsda.ensures.reads)

pub returns-clause-reads : goal.returns-clause-reads
returns-clause-reads c =
    let bases : Bases = bases_of c.args.bases.now in
    whole_fde bases (cie_of c.args.cie.now) c.args.offset (at c.args.body) _ (sym c.start_encoding-encoding.ensures)
    c.in_ok-initial_address.initial_address (at c.read_start.new.input) c.in_ok-initial_address.ensures
    c.in_ok-len.len (at c.read_len.new.input) c.in_ok-len.ensures (omega arith) _ _
    c.in_ok-lsda.ensures.reads
