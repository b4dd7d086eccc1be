use Rattle.std.proofs.Common.{◌≡◌, ◌≤◌, ◌<◌, ◌∙◌, true, take, length, sym, ap, arith}
use Rattle.std.proofs.lemmas.List.{take_rest}
use Rattle.perf_data.specs.Layouts.{layout_of, is_same_layout}
use Rattle.perf_data.proofs.LayoutLemmas.{share_next}
use Rattle.perf_data.proofs.layout.share_layout.Goals as goal

pub loop-rest-preserved : goal.loop-rest-preserved
loop-rest-preserved c =
    let fits : c.args.size ≤ length c.loop-rest.rest.now = c.loop-rest-test.true in
    let some : 0 < c.args.size = omega arith in
    let same : is_same_layout (layout_of (take c.args.size c.loop-rest.rest.now)) c.args.layout.now ≡ true = sym (ap (λ l. is_same_layout l c.args.layout.now) c.layout_of.ensures) ∙ sym c.if-not-is_same_layout.ensures in
    rw take_rest (sym (share_next c.args.layout.now c.args.size c.loop-rest.rest.now some fits same) ∙ c.loop-rest.invariant)
