use Rattle.std.proofs.Common.{◌≡◌, ◌+◌, ◌++◌, ◌∷◌, [], sym, ap, ◌∙◌, arith}
use Rattle.std.specs.Map.Iter.{deref_pair}
use Rattle.std.proofs.lemmas.Map.Iter.{rest_all, rest_more}
use Rattle.std.proofs.lemmas.List.Sums.{sum_by-cons}
use Rattle.folded_stacks.proofs.Counting.{total}
use Rattle.sampled_profile.specs.CountViews.{counted_times}
use Rattle.sampled_profile.specs.Tables.{all_counted, shown_text, total_of}
use Rattle.sampled_profile.proofs.CountLemmas.{times_total}
use Rattle.sampled_profile.proofs.TableLemmas.{all_lines}
use Rattle.sampled_profile.proofs.text_counts.counts_by_text.Goals as goal

pub loop-stack-preserved : goal.loop-stack-preserved
loop-stack-preserved c =
    let origins = c.args.origins.now in
    let stack = c.in-Some.stack.now in
    let n = c.in-Some.count.now in
    let next = c.next.new.self in
    let counts = c.loop-stack.counts in
    let step : c.loop-stack.stack-iterator ≡ (stack, n) ∷ next = rest_more deref_pair c.loop-stack.stack-iterator next c.next.result (c.in-Some.stack, c.in-Some.count) c.in-Some.is c.next.ensures.steps in
    let text : c.bytes.result.now ≡ shown_text origins stack =
    c.bytes.ensures ∙ (c.in_ok-put_stack.ensures.text ∙ (ap (λ t. t ++ shown_text c.loop-stack.texts stack) c.clear.ensures ∙ ap (λ o. shown_text o stack) c.loop-stack.invariant.files)) in
    let put : c.add.new.self ≡ counted_times n (shown_text origins stack) counts = c.in_ok-add.ensures ∙ ap (λ t. counted_times n t counts) text in
    let sum : total c.add.new.self ≡ total counts + n = ap total put ∙ times_total n (shown_text origins stack) counts in
    let left : total_of c.loop-stack.stack-iterator ≡ n + total_of next = ap total_of step ∙ sum_by-cons (λ e. e.1) (stack, n) next in
    let few = c.loop-stack.invariant.few in
    record {
      lines = ap (all_counted origins next) put ∙ (ap (λ es. all_counted origins es counts) (sym step) ∙ c.loop-stack.invariant.lines);
      few = omega arith;
      files = c.put_stack.ensures.files ∙ c.loop-stack.invariant.files;
    }

pub returns : goal.returns
returns c = λ stacks shows.
    let origins = c.args.origins.now in
    let none : c.loop-stack.stack-iterator ≡ [] = rest_all deref_pair c.loop-stack.stack-iterator c.next.new.self c.next.result c.in-None.is c.next.ensures.steps in
    ap (λ es. all_counted origins es c.loop-stack.counts) (sym none) ∙ (c.loop-stack.invariant.lines ∙ all_lines origins c.args.table.now.counts.entries stacks shows)
