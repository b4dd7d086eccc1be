-- Stacks in order, each once with their number, are what is counted of them.
use Rattle.std.proofs.Common.{◌≡◌, ◌+◌, ◌≤◌, ℕ, Bool, true, false, cond, List, [], ◌∷◌, refl, sym, subst, ◌∙◌, arith}
use Rattle.std.specs.List.{count_by}
use Rattle.std.specs.List.Sorted.{IsPermutation}
use Rattle.std.proofs.lemmas.List.Sorted.{sum_by-IsPermutation}
use Rattle.folded_stacks.specs.Stacks.{ComesBefore, NeverFall, is_same}
use Rattle.folded_stacks.specs.Counts.{StackCount, stack_count, one_more, counts_of, Ascend}
use Rattle.folded_stacks.specs.Runs.{run_from, runs_of}
use Rattle.folded_stacks.proofs.Orders.{comes_after, same_is}
use Rattle.folded_stacks.proofs.Counting.{Positive, StandsBefore, absent, ascend_cons, count_for, counts_cons, counts_for, counts_some, counts_up, one_if, same_lines}

-- the first line has the stack that was counted so far
run_before : (t : List ℕ) (l : StackCount) (ss : List (List ℕ)) → ComesBefore t l.stack → StandsBefore t (run_from l ss)
run_before t l [] h = h
run_before t l (s ∷ ss) h = go (is_same l.stack s) (run_before t (one_more l) ss h)
  where
    go : (b : Bool) → StandsBefore t (run_from (one_more l) ss) → StandsBefore t (cond b (run_from (one_more l) ss) (l ∷ run_from (stack_count s 1) ss))
    go true later = later
    go false later = h

-- what stands in the lines from one on
record IsRun (l : StackCount) (ss : List (List ℕ)) (lines : List StackCount) : Type 0 where
  up : Ascend lines
  some : Positive lines
  counts : (q : List ℕ) → count_for q lines ≡ cond (is_same q l.stack) l.count 0 + count_by (is_same q) ss

run_is : (l : StackCount) (ss : List (List ℕ)) → NeverFall (l.stack ∷ ss) → 1 ≤ l.count → IsRun l ss (run_from l ss)
run_is l [] rise some = record { up = tt; some = (some, tt); counts = λ q. omega arith }
run_is l (s ∷ ss) rise some = go (is_same l.stack s) refl (λ e. run_is (one_more l) ss (subst (λ t. NeverFall (t ∷ ss)) (sym e) rise.1) (omega arith)) (run_is (stack_count s 1) ss rise.1 (omega arith))
  where
    again : l.stack ≡ s → (q : List ℕ) (b : Bool) → is_same q l.stack ≡ b → cond b (l.count + 1) 0 + count_by (is_same q) ss ≡ cond b l.count 0 + count_by (is_same q) (s ∷ ss)
    again e q true is =
        let one : one_if (is_same q s) ≡ 1 = rw (← e, is) refl in
        let both = counts_cons q s ss in
        omega arith
    again e q false is =
        let none : one_if (is_same q s) ≡ 0 = rw (← e, is) refl in
        let both = counts_cons q s ss in
        omega arith

    next : ComesBefore l.stack s → IsRun (stack_count s 1) ss (run_from (stack_count s 1) ss) → (q : List ℕ) (b : Bool) → is_same q l.stack ≡ b
        → cond b l.count (count_for q (run_from (stack_count s 1) ss)) ≡ cond b l.count 0 + count_by (is_same q) (s ∷ ss)
    next h later q true is =
        let before = run_before q (stack_count s 1) ss (subst (λ t. ComesBefore t s) (sym (same_is q l.stack is)) h) in
        let none = absent q (run_from (stack_count s 1) ss) before later.up in
        let shown = later.counts q in
        let both = counts_cons q s ss in
        omega arith
    next h later q false is =
        let shown = later.counts q in
        let both = counts_cons q s ss in
        omega arith

    go : (b : Bool) → is_same l.stack s ≡ b → (l.stack ≡ s → IsRun (one_more l) ss (run_from (one_more l) ss)) → IsRun (stack_count s 1) ss (run_from (stack_count s 1) ss)
        → IsRun l (s ∷ ss) (cond b (run_from (one_more l) ss) (l ∷ run_from (stack_count s 1) ss))
    go true is same other =
        let e = same_is l.stack s is in
        let run = same e in
        record { up = run.up; some = run.some; counts = λ q. run.counts q ∙ again e q (is_same q l.stack) refl }
    go false is same other =
        let h = comes_after l.stack s rise.0 is in
        record {
          up = ascend_cons l (run_from (stack_count s 1) ss) (run_before l.stack (stack_count s 1) ss h) other.up;
          some = (some, other.some);
          counts = λ q. next h other q (is_same q l.stack) refl;
        }

-- stacks in order, in whichever order they were before
pub runs_counted : (stacks sorted : List (List ℕ)) → IsPermutation stacks sorted → NeverFall sorted → runs_of sorted ≡ counts_of stacks
runs_counted stacks sorted moved rise =
    let runs = go sorted rise in
    same_lines (runs_of sorted) (counts_of stacks) runs.0 (counts_up stacks) runs.1 (counts_some stacks) (λ q. runs.2 q ∙ (moved_counts q ∙ sym (counts_for q stacks)))
  where
    moved_counts : (q : List ℕ) → count_by (is_same q) sorted ≡ count_by (is_same q) stacks
    moved_counts q = sum_by-IsPermutation (λ t. cond (is_same q t) 1 0) stacks sorted moved

    go : (ss : List (List ℕ)) → NeverFall ss → Ascend (runs_of ss) × Positive (runs_of ss) × ((q : List ℕ) → count_for q (runs_of ss) ≡ count_by (is_same q) ss)
    go [] rise = (tt, tt, λ q. refl)
    go (s ∷ ss) rise =
        let run = run_is (stack_count s 1) ss rise (omega arith) in
        (run.up, run.some, λ q. run.counts q ∙ sym (counts_cons q s ss))
