use Rattle.std.proofs.Common.{List, ℕ, Bor, option_map, ap, sym, ◌∙◌}
use Rattle.std.specs.List.{slice_get}
use Rattle.stack_report.proofs.Written.{folds_more, line_got}
use Rattle.stack_report.proofs.folds.put_folds.Goals as goal

pub loop-index-preserved : goal.loop-index-preserved
loop-index-preserved c =
    let lines = c.args.folded.now.lines in
    let shown = sym (ap (option_map (λ (a : Bor (List ℕ)). a.now)) c.unwrap-stack.ensures) ∙ c.stack.ensures in
    let at = line_got (slice_get lines c.loop-index.index) c.unwrap-stack.result.now c.unwrap-count.result shown (sym c.unwrap-count.ensures ∙ c.count.ensures) in
    folds_more lines c.loop-index.index _ _ _ at c.in_ok-put_fold.ensures ∙ c.loop-index.invariant
