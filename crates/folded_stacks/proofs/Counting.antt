-- Lines in order: what they count of each stack, and that this determines them.
use Rattle.std.proofs.Common.{◌≡◌, ◌+◌, ◌≤◌, ℕ, zero, suc, Bool, true, false, cond, List, [], ◌∷◌, length, Ordering, Less, Equal, Greater, inl, inr, refl, sym, subst, ◌∙◌, arith}
use Rattle.std.specs.List.{Contains, AllByRecursion, count_by, sum_by}
use Rattle.std.proofs.lemmas.List.Sums.{sum_by-cons}
use Rattle.unwind_laws.proofs.Booleans.{here_or_later, none_in_nil, later, first, all_contains, contains_all}
use Rattle.folded_stacks.specs.Stacks.{ComesBefore, is_same, stack_order}
use Rattle.folded_stacks.specs.Counts.{StackCount, stack_count, one_more, counted_in, counts_of, Ascend, HasLine, IsFolded}
use Rattle.folded_stacks.proofs.Orders.{before_then, before_other, after_other, same_itself, same_is, says}

-- the count of the first line of a stack, 0 where it has none
abbrev pub count_for : List ℕ → List StackCount → ℕ
count_for s [] = 0
count_for s (l ∷ ls) = cond (is_same s l.stack) l.count (count_for s ls)

abbrev pub Positive : List StackCount → Type 0
Positive = AllByRecursion (λ (l : StackCount). 1 ≤ l.count)

abbrev pub one_if : Bool → ℕ
one_if b = cond b 1 0

pub counts_cons : (q s : List ℕ) (ss : List (List ℕ)) → count_by (is_same q) (s ∷ ss) ≡ one_if (is_same q s) + count_by (is_same q) ss
counts_cons q s ss = sum_by-cons (λ t. cond (is_same q t) 1 0) s ss

-- ---- in order

-- a stack comes before the first line
abbrev pub StandsBefore : List ℕ → List StackCount → Type 0
StandsBefore s [] = Unit {0}
StandsBefore s (l ∷ ls) = ComesBefore s l.stack

pub ascend_first : (l : StackCount) (ls : List StackCount) → Ascend (l ∷ ls) → StandsBefore l.stack ls × Ascend ls
ascend_first l [] up = (tt, tt)
ascend_first l (m ∷ ls) up = (up.0, up.1)

pub ascend_cons : (l : StackCount) (ls : List StackCount) → StandsBefore l.stack ls → Ascend ls → Ascend (l ∷ ls)
ascend_cons l [] h up = tt
ascend_cons l (m ∷ ls) h up = (h, up)

-- a stack that comes before the first line comes before each
pub before_each : (s : List ℕ) (ls : List StackCount) → StandsBefore s ls → Ascend ls → (m : StackCount) → Contains ls m → ComesBefore s m.stack
before_each s [] h up m has = absurd (none_in_nil m has)
before_each s (l ∷ ls) h up m has =
    let parts = ascend_first l ls up in
    elim (here_or_later l ls m has) [
      | inl same ↦ subst (λ (k : StackCount). ComesBefore s k.stack) same h
      | inr there ↦ before_then s l.stack m.stack h (before_each l.stack ls parts.0 parts.1 m there)
    ]

-- and has no line
pub absent : (s : List ℕ) (ls : List StackCount) → StandsBefore s ls → Ascend ls → count_for s ls ≡ 0
absent s [] h up = refl
absent s (l ∷ []) h up = rw (before_other s l.stack h) refl
absent s (l ∷ m ∷ ls) h up = rw (before_other s l.stack h) (absent s (m ∷ ls) (before_then s l.stack m.stack h up.0) up.1)

pub count_here : (l : StackCount) (ls : List StackCount) → count_for l.stack (l ∷ ls) ≡ l.count
count_here l ls = rw (same_itself l.stack) refl

pub count_past : (s : List ℕ) (l : StackCount) (ls : List StackCount) → is_same s l.stack ≡ false → count_for s (l ∷ ls) ≡ count_for s ls
count_past s l ls other = rw other refl

-- ---- lines in order that count alike are the same

module _ (l m : StackCount) (ls ms : List StackCount) (up : Ascend (l ∷ ls)) (rise : Ascend (m ∷ ms)) (alike : (s : List ℕ) → count_for s (l ∷ ls) ≡ count_for s (m ∷ ms)) where
  low_first : 1 ≤ l.count → ComesBefore l.stack m.stack → ⊥
  low_first some h =
      let none = absent l.stack (m ∷ ms) h rise in
      let here = count_here l ls in
      let both = alike l.stack in
      omega arith

  low_second : 1 ≤ m.count → ComesBefore m.stack l.stack → ⊥
  low_second some h =
      let none = absent m.stack (l ∷ ls) h up in
      let here = count_here m ms in
      let both = alike m.stack in
      omega arith

  same_first : l.stack ≡ m.stack → l ≡ m
  same_first e =
      let there = subst (λ t. count_for t (m ∷ ms) ≡ m.count) (sym e) (count_here m ms) in
      let count : l.count ≡ m.count = sym (count_here l ls) ∙ (alike l.stack ∙ there) in
      λ i. record { stack = e i; count = count i }

  rest_alike : l.stack ≡ m.stack → (s : List ℕ) → count_for s ls ≡ count_for s ms
  rest_alike e s = go (is_same s l.stack) refl
    where
      go : (b : Bool) → is_same s l.stack ≡ b → count_for s ls ≡ count_for s ms
      go true is =
          let at = same_is s l.stack is in
          let first_part = ascend_first l ls up in
          let second_part = ascend_first m ms rise in
          let none : count_for s ls ≡ 0 = rw at (absent l.stack ls first_part.0 first_part.1) in
          let neither : count_for s ms ≡ 0 = rw (at ∙ e) (absent m.stack ms second_part.0 second_part.1) in
          none ∙ sym neither
      go false other =
          let as_well : is_same s m.stack ≡ false = subst (λ t. is_same s t ≡ false) e other in
          sym (count_past s l ls other) ∙ (alike s ∙ count_past s m ms as_well)

pub same_lines : (ls ms : List StackCount) → Ascend ls → Ascend ms → Positive ls → Positive ms → ((s : List ℕ) → count_for s ls ≡ count_for s ms) → ls ≡ ms
same_lines [] [] up rise some more alike = refl
same_lines [] (m ∷ ms) up rise some more alike = let none = alike m.stack in let here = count_here m ms in let one = more.0 in absurd (omega arith)
same_lines (l ∷ ls) [] up rise some more alike = let none = alike l.stack in let here = count_here l ls in let one = some.0 in absurd (omega arith)
same_lines (l ∷ ls) (m ∷ ms) up rise some more alike = go (stack_order l.stack m.stack) refl (λ e. same_lines ls ms (ascend_first l ls up).1 (ascend_first m ms rise).1 some.1 more.1 (rest_alike l m ls ms up rise alike e))
  where
    go : (r : Ordering) → stack_order l.stack m.stack ≡ r → (l.stack ≡ m.stack → ls ≡ ms) → l ∷ ls ≡ m ∷ ms
    go Less is rest = absurd (low_first l m ls ms up rise alike some.0 (says l.stack m.stack Less is))
    go Equal is rest =
        let e = says l.stack m.stack Equal is in
        let here = same_first l m ls ms up rise alike e in
        let others = rest e in
        λ i. here i ∷ others i
    go Greater is rest = absurd (low_second l m ls ms up rise alike more.0 (says l.stack m.stack Greater is))

-- ---- one more sample

pub counted_before : (t s : List ℕ) (ls : List StackCount) → ComesBefore t s → StandsBefore t ls → StandsBefore t (counted_in s ls)
counted_before t s [] h before = h
counted_before t s (l ∷ ls) h before = go (stack_order s l.stack) refl
  where
    go : (r : Ordering) → stack_order s l.stack ≡ r → StandsBefore t (counted_in s (l ∷ ls))
    go Less is = rw is h
    go Equal is = rw is before
    go Greater is = rw is before

pub counted_up : (s : List ℕ) (ls : List StackCount) → Ascend ls → Ascend (counted_in s ls)
counted_up s [] up = tt
counted_up s (l ∷ ls) up = go (stack_order s l.stack) refl (counted_up s ls (ascend_first l ls up).1)
  where
    go : (r : Ordering) → stack_order s l.stack ≡ r → Ascend (counted_in s ls) → Ascend (counted_in s (l ∷ ls))
    go Less is rest = rw is (says s l.stack Less is, up)
    go Equal is rest = let parts = ascend_first l ls up in rw is (ascend_cons (one_more l) ls parts.0 parts.1)
    go Greater is rest = rw is (ascend_cons l (counted_in s ls) (counted_before l.stack s ls (says s l.stack Greater is) (ascend_first l ls up).0) rest)

pub counted_some : (s : List ℕ) (ls : List StackCount) → Positive ls → Positive (counted_in s ls)
counted_some s [] some = (omega arith, tt)
counted_some s (l ∷ ls) some = go (stack_order s l.stack) refl (counted_some s ls some.1)
  where
    go : (r : Ordering) → stack_order s l.stack ≡ r → Positive (counted_in s ls) → Positive (counted_in s (l ∷ ls))
    go Less is rest = rw is (omega arith, some)
    go Equal is rest = rw is (omega arith, some.1)
    go Greater is rest = rw is (some.0, rest)

-- a stack counts as before, and the sample's own once more
pub counted_for : (q s : List ℕ) (ls : List StackCount) → Ascend ls → count_for q (counted_in s ls) ≡ one_if (is_same q s) + count_for q ls
counted_for q s [] up = omega arith
counted_for q s (l ∷ ls) up = go (stack_order s l.stack) refl (counted_for q s ls (ascend_first l ls up).1)
  where
    new : ComesBefore s l.stack → (b : Bool) → is_same q s ≡ b → cond b 1 (count_for q (l ∷ ls)) ≡ one_if b + count_for q (l ∷ ls)
    new h true is = let none = subst (λ t. count_for t (l ∷ ls) ≡ 0) (sym (same_is q s is)) (absent s (l ∷ ls) h up) in omega arith
    new h false is = omega arith

    known : (b : Bool) → cond b (l.count + 1) (count_for q ls) ≡ one_if b + cond b l.count (count_for q ls)
    known true = omega arith
    known false = omega arith

    further : ComesBefore l.stack s → count_for q (counted_in s ls) ≡ one_if (is_same q s) + count_for q ls → (b : Bool) → is_same q l.stack ≡ b
        → cond b l.count (count_for q (counted_in s ls)) ≡ one_if (is_same q s) + cond b l.count (count_for q ls)
    further h rest true is =
        let other : is_same q s ≡ false = before_other q s (subst (λ t. ComesBefore t s) (sym (same_is q l.stack is)) h) in
        rw other (omega arith)
    further h rest false is = rest

    go : (r : Ordering) → stack_order s l.stack ≡ r → count_for q (counted_in s ls) ≡ one_if (is_same q s) + count_for q ls → count_for q (counted_in s (l ∷ ls)) ≡ one_if (is_same q s) + count_for q (l ∷ ls)
    go Less is rest = rw is (new (says s l.stack Less is) (is_same q s) refl)
    go Equal is rest = rw (is, says s l.stack Equal is) (known (is_same q l.stack))
    go Greater is rest = rw is (further (says s l.stack Greater is) rest (is_same q l.stack) refl)

-- ---- the lines of stacks

pub counts_up : (ss : List (List ℕ)) → Ascend (counts_of ss)
counts_up [] = tt
counts_up (s ∷ ss) = counted_up s (counts_of ss) (counts_up ss)

pub counts_some : (ss : List (List ℕ)) → Positive (counts_of ss)
counts_some [] = tt
counts_some (s ∷ ss) = counted_some s (counts_of ss) (counts_some ss)

pub counts_for : (q : List ℕ) (ss : List (List ℕ)) → count_for q (counts_of ss) ≡ count_by (is_same q) ss
counts_for q [] = refl
counts_for q (s ∷ ss) =
    let one = counted_for q s (counts_of ss) (counts_up ss) in
    let rest = counts_for q ss in
    let both = counts_cons q s ss in
    omega arith

-- ---- their sum

abbrev pub total : List StackCount → ℕ
total lines = sum_by (λ (l : StackCount). l.count) lines

pub total_cons : (l : StackCount) (ls : List StackCount) → total (l ∷ ls) ≡ l.count + total ls
total_cons l ls = sum_by-cons (λ (k : StackCount). k.count) l ls

counted_total : (s : List ℕ) (ls : List StackCount) → total (counted_in s ls) ≡ 1 + total ls
counted_total s [] = let one = total_cons (stack_count s 1) [] in omega arith
counted_total s (l ∷ ls) = go (stack_order s l.stack) refl (counted_total s ls)
  where
    go : (r : Ordering) → stack_order s l.stack ≡ r → total (counted_in s ls) ≡ 1 + total ls → total (counted_in s (l ∷ ls)) ≡ 1 + total (l ∷ ls)
    go Less is rest = rw is (total_cons (stack_count s 1) (l ∷ ls))
    go Equal is rest = let old = total_cons l ls in let new = total_cons (one_more l) ls in rw is (omega arith)
    go Greater is rest = let old = total_cons l ls in let new = total_cons l (counted_in s ls) in rw is (omega arith)

pub counts_total : (ss : List (List ℕ)) → total (counts_of ss) ≡ length ss
counts_total [] = refl
counts_total (s ∷ ss) =
    let one = counted_total s (counts_of ss) in
    let rest = counts_total ss in
    omega arith

-- ---- lines and counts

-- a line tells its stack's count
pub line_counts : (ls : List StackCount) → Ascend ls → (s : List ℕ) (n : ℕ) → HasLine ls s n → count_for s ls ≡ n
line_counts [] up s n has = absurd (none_in_nil (stack_count s n) has)
line_counts (l ∷ ls) up s n has =
    let parts = ascend_first l ls up in
    elim (here_or_later l ls (stack_count s n) has) [
      | inl same ↦ rw same (rw (same_itself s) refl)
      | inr there ↦ rw (after_other s l.stack (before_each l.stack ls parts.0 parts.1 (stack_count s n) there)) (line_counts ls parts.1 s n there)
    ]

-- a stack that is counted has a line
pub has_line : (ls : List StackCount) (s : List ℕ) → 1 ≤ count_for s ls → HasLine ls s (count_for s ls)
has_line [] s some = absurd (omega arith)
has_line (l ∷ ls) s some = go (is_same s l.stack) refl some (has_line ls s)
  where
    go : (b : Bool) → is_same s l.stack ≡ b → 1 ≤ cond b l.count (count_for s ls) → (1 ≤ count_for s ls → HasLine ls s (count_for s ls)) → HasLine (l ∷ ls) s (cond (is_same s l.stack) l.count (count_for s ls))
    go true is some rest = rw is (subst (λ t. HasLine (l ∷ ls) t l.count) (sym (same_is s l.stack is)) (first l ls))
    go false is some rest = rw is (later l ls (stack_count s (count_for s ls)) (rest some))

-- lines in order that count the samples of each stack are those of the samples
pub folded_by_counts : (stacks : List (List ℕ)) (ls : List StackCount) → Ascend ls → Positive ls → ((q : List ℕ) → count_for q ls ≡ count_by (is_same q) stacks) → IsFolded stacks ls
folded_by_counts stacks ls up some counts = record {
  ascend = up;
  exact = λ s n. (
    λ has. (all_contains (λ (l : StackCount). 1 ≤ l.count) ls (stack_count s n) some has, sym (counts s) ∙ line_counts ls up s n has),
    λ shown.
        let is : count_for s ls ≡ n = counts s ∙ shown.1 in
        subst (HasLine ls s) is (has_line ls s (rw is shown.0)),
  );
}

pub folded_some : (stacks : List (List ℕ)) (ls : List StackCount) → IsFolded stacks ls → Positive ls
folded_some stacks ls is = contains_all (λ (l : StackCount). 1 ≤ l.count) ls (λ l has. ((is.exact l.stack l.count).0 has).0)

pub folded_counts : (stacks : List (List ℕ)) (ls : List StackCount) → IsFolded stacks ls → (q : List ℕ) → count_for q ls ≡ count_by (is_same q) stacks
folded_counts stacks ls is q = go (count_by (is_same q) stacks) refl (count_for q ls) refl
  where
    go : (n : ℕ) → count_by (is_same q) stacks ≡ n → (m : ℕ) → count_for q ls ≡ m → m ≡ n
    go (suc n) at m for = sym for ∙ line_counts ls is.ascend q (suc n) ((is.exact q (suc n)).1 (omega arith, at))
    go zero at zero for = refl
    go zero at (suc m) for =
        let has = subst (HasLine ls q) for (has_line ls q (rw for (omega arith))) in
        let shown = ((is.exact q (suc m)).0 has).1 in
        absurd (omega arith)

pub folded_once : (stacks : List (List ℕ)) (ls ms : List StackCount) → IsFolded stacks ls → IsFolded stacks ms → ls ≡ ms
folded_once stacks ls ms is as_well =
    same_lines ls ms is.ascend as_well.ascend (folded_some stacks ls is) (folded_some stacks ms as_well) (λ q. folded_counts stacks ls is q ∙ sym (folded_counts stacks ms as_well q))
