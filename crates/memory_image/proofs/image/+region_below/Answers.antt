use Rattle.std.proofs.Common.{Option, Some, ap, sym, ◌∙◌, arith}
use Rattle.memory_image.specs.Image.{Span}
use Rattle.memory_image.specs.Regions.{later_of}
use Rattle.memory_image.proofs.OverLemmas.{below-unchanged, below-held, below-with_span}
use Rattle.memory_image.proofs.image.+region_below.Goals as goal

pub region_below_over-returns-then-address-start : goal.region_below_over-returns-then-address-start
region_below_over-returns-then-address-start t c =
    let region : Span = record { start = c.args.start; bytes = c.args.bytes.now } in
    c.region_below.ensures.below ∙ sym (below-unchanged region c.args.below.now 0 c.args.address c.requires.laid_out (omega arith))

pub region_below_over-returns-then-address-start-2 : goal.region_below_over-returns-then-address-start-2
region_below_over-returns-then-address-start-2 t c =
    let region : Span = record { start = c.args.start; bytes = c.args.bytes.now } in
    sym (below-held region c.args.below.now c.args.address c.requires.laid_out c.requires.taken.apart (omega arith) (omega arith))

pub region_below_over-returns : goal.region_below_over-returns
region_below_over-returns t c =
    let region : Span = record { start = c.args.start; bytes = c.args.bytes.now } in
    ap (λ (s : Span). Some s) (c.later.ensures ∙ ap (λ (others : Option Span). later_of region others) c.region_below-2.ensures.below)
    ∙ sym (below-with_span region c.args.below.now 0 c.args.address c.requires.laid_out (omega arith))
