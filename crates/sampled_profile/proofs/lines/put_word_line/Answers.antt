use Rattle.std.proofs.Common.{◌≡◌, ◌∷◌, [], ℕ, List, subst}
use Rattle.std.specs.Prelude.{OnOk, codes}
use Rattle.sampled_profile.proofs.ScriptLemmas.{put_three}
use Rattle.sampled_profile.proofs.lines.put_word_line.Goals as goal

pub returns : goal.returns
returns c =
    let all = put_three c.args.report.now c.put.new.self c.put-2.new.self c.put-3.new.self (codes "\t0x0 ") c.args.word.now (codes " ([unknown])") (10 ∷ []) c.in_ok-put.ensures c.in_ok-put-2.ensures c.in_ok-put-3.ensures in
    subst (λ (s : List ℕ). OnOk c.end_line.result (c.end_line.new.self ≡ s)) all c.end_line.ensures
