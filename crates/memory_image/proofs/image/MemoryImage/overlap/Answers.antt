use Rattle.std.proofs.Common.{◌+◌, ◌-◌, ◌∙◌, refl, sym}
use Rattle.memory_image.specs.Regions.{span_of}
use Rattle.memory_image.proofs.SpanLemmas.{overlap-none, overlap-some}
use Rattle.memory_image.proofs.RegionLemmas.{ends_by-found, ends_by-none, past_end}
use Rattle.memory_image.proofs.image.MemoryImage.overlap.Goals as goal

pub returns-in_err-start : goal.returns-in_err-start
returns-in_err-start c =
    c.from_residual.ensures ∙
    sym (overlap-none c.args.self.now 0 c.args.address c.args.count c.requires.nonempty c.region_below.ensures.laid_out (ends_by-none c.args.self.now (c.args.address + (c.args.count - 1)) c.args.address c.in_err-start.ensures.below))

pub returns-then-ends_by : goal.returns-then-ends_by
returns-then-ends_by c =
    sym
    (overlap-none c.args.self.now 0 c.args.address c.args.count c.requires.nonempty c.region_below.ensures.laid_out
    (ends_by-found c.args.self.now (c.args.address + (c.args.count - 1)) c.args.address c.in_ok-start.start c.in_ok-start.bytes c.in_ok-start.ensures.below (c.if-ends_by.ensures.0 refl)))

pub returns : goal.returns
returns c =
    c.start_reaching.ensures ∙
    sym (overlap-some c.args.self.now 0 c.args.address c.args.count (span_of (c.in_ok-start.start, c.in_ok-start.bytes)) c.requires.nonempty c.region_below.ensures.laid_out (sym c.in_ok-start.ensures.below) (past_end _ _ c.if-ends_by.ensures.1))
