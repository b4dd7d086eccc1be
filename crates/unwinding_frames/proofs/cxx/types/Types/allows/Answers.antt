use Rattle.std.proofs.Common.{◌+◌, ◌-◌, length, refl, sym, ◌∙◌, arith}
use Rattle.std.proofs.lemmas.Result.{err_from_is_err_and}
use Rattle.encoded_pointers.specs.PointerViews.{bases_of}
use Rattle.encoded_pointers.specs.CursorViews.{at}
use Rattle.unwinding_frames.specs.CxxViews.{exception_of, types_of}
use Rattle.unwinding_frames.proofs.CxxLists.{is_zero, is_some, index_takes, index_fault, ends, type_fault, allowed, passed}
use Rattle.unwinding_frames.proofs.cxx.types.Types.allows.Goals as goal

pub loop-index-init : goal.loop-index-init
loop-index-init c = (length c.args.list.bytes.now + 1, omega arith, refl)

pub returns-in_err-index : goal.returns-in_err-index
returns-in_err-index c =
    let p = err_from_is_err_and c.from_residual.result c.from_residual.ensures.1 in
    let turns = c.loop-index.invariant.0 in let enough = c.loop-index.invariant.1 in
    rw (p.1, p.2) (sym (c.loop-index.invariant.2 ∙ index_fault c.args.image.now (bases_of c.args.bases.now) (exception_of c.args.exception) (types_of c.args.self) (turns - 1) turns (at c.loop-index.rest) (omega arith) c.in_err-index.field-0.0 c.in_err-index.ensures.reads))

pub returns-then-index-eq0 : goal.returns-then-index-eq0
returns-then-index-eq0 c =
    let turns = c.loop-index.invariant.0 in let enough = c.loop-index.invariant.1 in
    sym (c.loop-index.invariant.2 ∙ ends c.args.image.now (bases_of c.args.bases.now) (exception_of c.args.exception) (types_of c.args.self) (turns - 1) turns (at c.loop-index.rest) (omega arith) c.in_ok-index.index (at c.read_uleb128.new.self) c.in_ok-index.ensures.reads (is_zero c.in_ok-index.index c.if-index-eq0.true))

pub returns-in_err-named : goal.returns-in_err-named
returns-in_err-named c =
    let p = err_from_is_err_and c.from_residual-in_err-named.result c.from_residual-in_err-named.ensures.1 in
    let turns = c.loop-index.invariant.0 in let enough = c.loop-index.invariant.1 in
    rw (p.1, p.2) (sym (c.loop-index.invariant.2 ∙ type_fault c.args.image.now (bases_of c.args.bases.now) (exception_of c.args.exception) (types_of c.args.self) (turns - 1) turns (at c.loop-index.rest) (omega arith) c.in_ok-index.index (at c.read_uleb128.new.self) c.in_ok-index.ensures.reads (is_some c.in_ok-index.index c.if-index-eq0.false)
    c.in_err-named.field-0.0 (sym c.in_err-named.ensures)))

pub returns-then-is_of : goal.returns-then-is_of
returns-then-is_of c =
    let turns = c.loop-index.invariant.0 in let enough = c.loop-index.invariant.1 in
    sym (c.loop-index.invariant.2 ∙ allowed c.args.image.now (bases_of c.args.bases.now) (exception_of c.args.exception) (types_of c.args.self) (turns - 1) turns (at c.loop-index.rest) (omega arith) c.in_ok-index.index (at c.read_uleb128.new.self) c.in_ok-index.ensures.reads (is_some c.in_ok-index.index c.if-index-eq0.false)
    c.in_ok-named.named (sym c.in_ok-named.ensures) (sym c.is_of.ensures ∙ c.if-is_of.true))

pub loop-index-smaller : goal.loop-index-smaller
loop-index-smaller c = index_takes (at c.loop-index.rest) (at c.read_uleb128.new.self) c.in_ok-index.index c.in_ok-index.ensures.reads

pub loop-index-preserved : goal.loop-index-preserved
loop-index-preserved c =
    let turns = c.loop-index.invariant.0 in let enough = c.loop-index.invariant.1 in
    let less = index_takes (at c.loop-index.rest) (at c.read_uleb128.new.self) c.in_ok-index.index c.in_ok-index.ensures.reads in (
      turns - 1,
      omega arith,
      c.loop-index.invariant.2 ∙ passed c.args.image.now (bases_of c.args.bases.now) (exception_of c.args.exception) (types_of c.args.self) (turns - 1) turns (at c.loop-index.rest) (omega arith) c.in_ok-index.index (at c.read_uleb128.new.self) c.in_ok-index.ensures.reads (is_some c.in_ok-index.index c.if-index-eq0.false)
          c.in_ok-named.named (sym c.in_ok-named.ensures) (sym c.is_of.ensures ∙ c.if-is_of.false),
    )
