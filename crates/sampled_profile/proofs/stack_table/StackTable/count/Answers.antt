use Rattle.std.proofs.Common.{◌≡◌, ◌+◌, ◌∷◌, None, sym, ap, subst, ◌∙◌, arith}
use Rattle.std.specs.List.Sorted.{IsPermutation}
use Rattle.std.specs.Option.{MatchOption}
use Rattle.std.specs.Map.{lookup, set_value}
use Rattle.sampled_profile.specs.Tables.{CountsOneMore}
use Rattle.sampled_profile.specs.contracts.stack_table.SampledStackPartialEq.TheImpl as stacks
use Rattle.sampled_profile.proofs.KeyLemmas.{copy_same, copy_text, lookup_same, same_text}
use Rattle.sampled_profile.proofs.TableLemmas.{count_fits, joined, risen}
use Rattle.sampled_profile.proofs.stack_table.StackTable.count.Goals as goal

pub overflow_add-count : goal.overflow_add-count
overflow_add-count c =
    let fits = count_fits _ c.args.self.now.counts.entries c.in-Some.count.now (sym c.in-Some.ensures.value) in
    let few = c.requires in
    omega arith

pub returns-in-Some : goal.returns-in-Some
returns-in-Some c =
    let stack = c.args.stack.now in
    let entries = c.args.self.now.counts.entries in
    let n = c.in-Some.count.now in
    subst (λ es. CountsOneMore stack entries es) (sym (c.get_mut.follows.holds (n + 1)).0) (risen (stacks.eq-value.it stack) stack entries n (sym c.in-Some.ensures.value) (same_text stack))

pub returns : goal.returns
returns c =
    let stack = c.args.stack.now in
    let key = c.in_ok-key.key in
    let entries = c.args.self.now.counts.entries in
    let before = c.get_mut.follows.lender-at-none in
    let same : before ≡ c.args.self.now.counts = c.get_mut.follows.holds-at-none in
    let copied = copy_same key stack c.in_ok-key.ensures.named c.in_ok-key.ensures.name c.in_ok-key.ensures.end c.in_ok-key.ensures.popped c.in_ok-key.ensures.places in
    let none : c.in_ok-insert.field-0 ≡ None =
    c.in_ok-insert.ensures.old ∙ (ap (λ m. lookup (stacks.eq-value.it key) m.entries) same ∙ (lookup_same (stacks.eq-value.it key) (stacks.eq-value.it stack) entries copied ∙ sym c.in_default.ensures.value)) in
    let put : IsPermutation ((key, 1) ∷ before.entries) c.insert.new.self.entries =
    subst (λ o. MatchOption o (IsPermutation ((key, 1) ∷ before.entries) c.insert.new.self.entries) (λ _. c.insert.new.self.entries ≡ set_value (stacks.eq-value.it key) before.entries 1)) none c.in_ok-insert.ensures.entries in
    let moved = subst (λ m. IsPermutation ((key, 1) ∷ m.entries) c.insert.new.self.entries) same put in
    joined key stack entries c.insert.new.self.entries moved
    (copy_text key stack c.in_ok-key.ensures.named c.in_ok-key.ensures.name c.in_ok-key.ensures.end c.in_ok-key.ensures.popped c.in_ok-key.ensures.places)
