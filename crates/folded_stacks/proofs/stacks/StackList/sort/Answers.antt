use Rattle.std.proofs.Common.{subst, rules}
use Rattle.std.specs.List.Sorted.{IsPermutation}
use Rattle.std.specs.Cmp.Lexicographic.{nat_list_cmp_total}
use Rattle.std.proofs.lemmas.List.Sorted.{All-permutation, IsPermutation-map}
use Rattle.std.proofs.lemmas.Result.{on_ok_weaker}
use Rattle.folded_stacks.specs.Places.{LiesWithin, stack_at, stacks_at}
use Rattle.folded_stacks.specs.Stacks.{stack_order}
use Rattle.folded_stacks.proofs.Kept.{places_rise, sorted_by_keys}
use Rattle.folded_stacks.proofs.stacks.StackList.sort.Goals as goal

pub invariant_of-self : goal.invariant_of-self
invariant_of-self c = All-permutation (LiesWithin c.self.inside.addresses.items) c.self.inside.places.items c.sort_by.new.self.items c.sort_by.ensures.permutation c.self.invariant

pub returns-clause-same : goal.returns-clause-same
returns-clause-same c =
    subst (λ s. IsPermutation s (stacks_at c.self.inside.addresses.items c.sort_by.new.self.items)) c.self.view_is
    (IsPermutation-map (stack_at c.self.inside.addresses.items) c.self.inside.places.items c.sort_by.new.self.items c.sort_by.ensures.permutation)

pub returns-clause-order : goal.returns-clause-order
returns-clause-order c =
    on_ok_weaker c.sort_by.result
    (λ up. places_rise c.self.inside.addresses.items c.sort_by.new.self.items (sorted_by_keys stack_order nat_list_cmp_total (stack_at c.self.inside.addresses.items) c.sort_by.new.self.items up (λ a r q k. search rules)))
    c.sort_by.ensures.sorted
