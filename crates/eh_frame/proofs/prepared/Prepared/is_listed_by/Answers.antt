use Rattle.std.proofs.Common.{◌≡◌, ℕ, ◌<◌, Ok, map, sym, ap, ◌∙◌, length, get_or, below_more, arith}
use Rattle.std.proofs.lemmas.List.{length-map}
use Rattle.unwind_definitions.specs.Entries.{Fde}
use Rattle.unwind_definitions.specs.Header.{pair_at}
use Rattle.unwind_definitions.specs.Module.{pair_of}
use Rattle.eh_frame.specs.HeaderViews.{pairs_of}
use Rattle.eh_frame.specs.Index.{described_fde}
use Rattle.eh_frame.proofs.Indexed.{an_item, answer_same, pair_at_place, pair_there}
use Rattle.eh_frame.proofs.prepared.Prepared.is_listed_by.Goals as goal

pub returns-then-not-is_pair-clause-unlisted : goal.returns-then-not-is_pair-clause-unlisted
returns-then-not-is_pair-clause-unlisted c e lists =
    let functions = c.args.self.now.functions in
    let base : ℕ = c.args.frames.now.address in
    let i = c.loop-index.index in
    let p : ℕ × ℕ = (c.range-start.result.0, c.offset-offset.result) in
    let count = c.len-index-end.ensures in
    let within : i < length functions = omega arith in
    let d : Fde = (an_item functions i within).fde in
    let n = length-map functions described_fde in
    let read = answer_same c.entry.result (pair_at (pairs_of c.args.table.now) i) c.entry.ensures.reads in
    let due = lists.each i d (omega arith) in
    c.is_pair.ensures.other c.if-not-is_pair.true
    (sym read ∙ due ∙ sym (ap (λ (q : ℕ × ℕ). Ok q) (pair_there functions i base p d within (λ d. ((c.range-start.ensures.range d).0, c.offset-offset.ensures d)))) ∙ ap (λ (a : ℕ). Ok (pair_at_place a p)) (sym c.address.ensures))

pub loop-index-preserved : goal.loop-index-preserved
loop-index-preserved c k d lt =
    let functions = c.args.self.now.functions in
    let base : ℕ = c.args.frames.now.address in
    let i = c.loop-index.index in
    let p : ℕ × ℕ = (c.range-start.result.0, c.offset-offset.result) in
    let count = c.len-index-end.ensures in
    let within : i < length functions = omega arith in
    let read = answer_same c.entry.result (pair_at (pairs_of c.args.table.now) i) c.entry.ensures.reads in
    let P : ℕ → Type 0 = λ j. pair_at (pairs_of c.args.table.now) j ≡ Ok (pair_of base (get_or (map described_fde functions) j d)) in
    let here : P i =
    read ∙ c.is_pair.ensures.same c.if-not-is_pair.false ∙ ap (λ (a : ℕ). Ok (pair_at_place a p)) c.address.ensures ∙ ap (λ (q : ℕ × ℕ). Ok q) (pair_there functions i base p d within (λ d. ((c.range-start.ensures.range d).0, c.offset-offset.ensures d))) in
    below_more P i (λ j lt. c.loop-index.invariant j d lt) here k lt
