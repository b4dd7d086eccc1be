use Rattle.std.proofs.Common.{sym, ap, ◌∙◌, rules}
use Rattle.std.proofs.lemmas.List.Sorted.{All-permutation, IsNonDecreasingBy-from_sort_by_key, IsPermutation-sym}
use Rattle.stack_snapshot.specs.declared.ranges.AddressRange.{AddressRange}
use Rattle.stack_snapshot.specs.Ranges.{are_ascending}
use Rattle.stack_snapshot.proofs.RangeLemmas.{IsRange, ascending_disjoint, disjoint_ascending, disjoint_moved}
use Rattle.stack_snapshot.proofs.ranges.are_disjoint.Goals as goal

pub returns : goal.returns
returns c =
    let moved = c.sort_by_key.new.self.items in
    let same = c.in_ok-sort_by_key.ensures.permutation in
    let sorted = IsNonDecreasingBy-from_sort_by_key (λ (r : AddressRange). r.first) moved c.in_ok-sort_by_key.ensures.sorted (λ a r q k. search rules) in
    let ranges = All-permutation IsRange _ moved same c.requires in
    let ascends = c.are_ascending.ensures ∙ ap are_ascending c.deref.ensures.value in (
      λ up. disjoint_moved moved _ (IsPermutation-sym _ moved same) (ascending_disjoint moved ranges (sym ascends ∙ up)),
      λ disjoint. ascends ∙ disjoint_ascending moved sorted ranges (disjoint_moved _ moved same disjoint),
    )
