use Rattle.std.proofs.Common.{◌-◌, ◌∙◌, sym, arith, length-drop}
use Rattle.std.proofs.lemmas.List.{take_rest, drop_all}
use Rattle.memory_image.specs.Regions.{span_of}
use Rattle.memory_image.proofs.SpanLemmas.{found, table_at-none}
use Rattle.memory_image.proofs.image.MemoryImage.from.Goals as goal

pub returns-in_err-start-clause-held : goal.returns-in_err-start-clause-held
returns-in_err-start-clause-held c = rw c.from_residual.ensures (table_at-none c.args.self.now 0 c.args.address c.region_below.ensures.laid_out (sym c.in_err-start.ensures.below))

pub overflow_sub-offset : goal.overflow_sub-offset
overflow_sub-offset c = (found c.args.self.now 0 c.args.address (span_of (c.in_ok-start.start, c.in_ok-start.bytes)) c.region_below.ensures.laid_out (sym c.in_ok-start.ensures.below)).at_or_below

pub returns-then-offset-bytes-clause-held : goal.returns-then-offset-bytes-clause-held
returns-then-offset-bytes-clause-held c =
    let f = found c.args.self.now 0 c.args.address (span_of (c.in_ok-start.start, c.in_ok-start.bytes)) c.region_below.ensures.laid_out (sym c.in_ok-start.ensures.below) in
    rw take_rest (sym f.table, rw length-drop (omega arith))

pub returns-else-offset-bytes-clause-held : goal.returns-else-offset-bytes-clause-held
returns-else-offset-bytes-clause-held c =
    let f = found c.args.self.now 0 c.args.address (span_of (c.in_ok-start.start, c.in_ok-start.bytes)) c.region_below.ensures.laid_out (sym c.in_ok-start.ensures.below) in
    f.table ∙ drop_all (c.args.address - c.in_ok-start.start) c.in_ok-start.bytes.now (omega arith)
