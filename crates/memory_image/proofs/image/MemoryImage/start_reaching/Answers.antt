use Rattle.std.proofs.Common.{◌≡◌, ◌≤◌, ◌∙◌, Some, refl, sym}
use Rattle.memory_image.specs.Image.{Span, end_of}
use Rattle.memory_image.specs.Regions.{span_of, span_below}
use Rattle.memory_image.proofs.SpanLemmas.{reaching-held, reaching-above}
use Rattle.memory_image.proofs.RegionLemmas.{ends_by-found, ends_by-none, past_end}
use Rattle.memory_image.proofs.image.MemoryImage.start_reaching.Goals as goal
use Rattle.memory_image.proofs.image.MemoryImage.start_reaching.Goals.{in-Some+else-not-ends_by, in_default}

pub returns-then-not-ends_by : goal.returns-then-not-ends_by
returns-then-not-ends_by c =
    sym (reaching-held c.args.self.now 0 c.args.address (span_of (c.in-Some.start, c.in-Some.bytes)) c.region_below.ensures.laid_out (sym c.in-Some.ensures.below) (past_end _ _ c.if-not-ends_by.ensures.1))

pub returns : goal.returns
returns c =
    let past : (t : Span) → span_below c.args.self.now c.args.address ≡ Some t → end_of t ≤ c.args.address = elim c.match-region_below.branch [
      | in-Some+else-not-ends_by w ↦ ends_by-found c.args.self.now c.args.address c.args.address w.in-Some.start w.in-Some.bytes w.in-Some.ensures.below (w.if-not-ends_by.ensures.0 refl)
      | in_default w ↦ ends_by-none c.args.self.now c.args.address c.args.address w.in_default.ensures.below
    ] in
    c.start_above.ensures ∙ sym (reaching-above c.args.self.now 0 c.args.address c.region_below.ensures.laid_out past)
