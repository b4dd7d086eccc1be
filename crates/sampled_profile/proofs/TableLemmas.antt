-- Stacks by their functions: a sample more, and the lines of all of them.
use Rattle.std.proofs.Common.{◌≡◌, ◌+◌, ◌≤◌, ℕ, zero, suc, Bool, true, false, cond, List, [], ◌∷◌, Some, refl, sym, ap, ◌∙◌, arith}
use Rattle.std.specs.List.{count_by, sum_by}
use Rattle.std.specs.List.Sorted.{IsPermutation}
use Rattle.std.specs.Map.{lookup, set_value}
use Rattle.std.proofs.lemmas.List.Sums.{sum_by-cons}
use Rattle.std.proofs.lemmas.List.Sorted.{sum_by-IsPermutation}
use Rattle.folded_stacks.specs.Counts.{counted_in, counts_of}
use Rattle.folded_stacks.specs.Stacks.{is_same}
use Rattle.folded_stacks.proofs.Counting.{counts_cons, counts_for, counts_some, counts_up, one_if, same_lines}
use Rattle.stack_snapshot.specs.Origins.{OriginValue}
use Rattle.sampled_profile.specs.declared.stack_table.SampledStack.{SampledStack}
use Rattle.sampled_profile.specs.CountViews.{counted_times}
use Rattle.sampled_profile.specs.Tables.{CountsOneMore, ShowsStacks, all_counted, shown_by, shown_text, weight_in}

-- ---- one more in a list of counts

module _ {K : Type 0} where
  pub sum_risen : (f : K × ℕ → ℕ) (test : K → Bool) (es : List (K × ℕ)) (n more : ℕ) → lookup test es ≡ Some n → ((k : K) → test k ≡ true → f (k, n + 1) ≡ f (k, n) + more)
      → sum_by f (set_value test es (n + 1)) ≡ sum_by f es + more
  sum_risen f test [] n more is rises = absurd cc
  sum_risen f test (e ∷ es) n more is rises = go (test e.0) refl is (λ later. sum_risen f test es n more later rises)
    where
      go : (b : Bool) → test e.0 ≡ b → cond b (Some e.1) (lookup test es) ≡ Some n → (lookup test es ≡ Some n → sum_by f (set_value test es (n + 1)) ≡ sum_by f es + more)
          → sum_by f (cond b ((e.0, n + 1) ∷ es) (e ∷ set_value test es (n + 1))) ≡ sum_by f (e ∷ es) + more
      go true at is rest =
          let had : e.1 ≡ n = cc in
          let here = rises e.0 at in
          let old : sum_by f (e ∷ es) ≡ f (e.0, n) + sum_by f es = sum_by-cons f e es ∙ ap (λ k. f (e.0, k) + sum_by f es) had in
          let new = sum_by-cons f (e.0, n + 1) es in
          omega arith
      go false at is rest =
          let old = sum_by-cons f e es in
          let new = sum_by-cons f e (set_value test es (n + 1)) in
          let risen = rest is in
          omega arith

  pub sum_joined : (f : K × ℕ → ℕ) (e : K × ℕ) (es fs : List (K × ℕ)) → IsPermutation (e ∷ es) fs → sum_by f fs ≡ sum_by f es + f e
  sum_joined f e es fs moved =
      let all = sum_by-IsPermutation f (e ∷ es) fs moved in
      let first = sum_by-cons f e es in
      omega arith

-- a count is at most the sum of all
pub count_fits : {K : Type 0} (test : K → Bool) (es : List (K × ℕ)) (n : ℕ) → lookup test es ≡ Some n → n ≤ sum_by (λ e. e.1) es
count_fits test [] n is = absurd cc
count_fits test (e ∷ es) n is = go (test e.0) is (count_fits test es n)
  where
    go : (b : Bool) → cond b (Some e.1) (lookup test es) ≡ Some n → (lookup test es ≡ Some n → n ≤ sum_by (λ e. e.1) es) → n ≤ sum_by (λ e. e.1) (e ∷ es)
    go true is rest = let same : e.1 ≡ n = cc in let all = sum_by-cons (λ e. e.1) e es in omega arith
    go false is rest = let all = sum_by-cons (λ e. e.1) e es in let fits = rest is in omega arith

-- ---- of stacks

weighs_more : (origins : List OriginValue) (text : List ℕ) (a b : SampledStack) (n : ℕ) → shown_text origins a ≡ shown_text origins b → weight_in origins text (a, n + 1) ≡ weight_in origins text (a, n) + weight_in origins text (b, 1)
weighs_more origins text a b n same = rw same (go (is_same text (shown_text origins b)))
  where
    go : (c : Bool) → cond c (n + 1) 0 ≡ cond c n 0 + cond c 1 0
    go true = refl
    go false = refl

-- a stack that is there
pub risen : (test : SampledStack → Bool) (stack : SampledStack) (es : List (SampledStack × ℕ)) (n : ℕ) → lookup test es ≡ Some n
    → ((k : SampledStack) → test k ≡ true → (origins : List OriginValue) → shown_text origins k ≡ shown_text origins stack) → CountsOneMore stack es (set_value test es (n + 1))
risen test stack es n is same = record {
  total = sum_risen (λ e. e.1) test es n 1 is (λ k at. refl);
  shown = λ origins text. sum_risen (weight_in origins text) test es n (weight_in origins text (stack, 1)) is (λ k at. weighs_more origins text k stack n (same k at origins));
}

-- one that isn't
pub joined : (key stack : SampledStack) (es fs : List (SampledStack × ℕ)) → IsPermutation ((key, 1) ∷ es) fs → ((origins : List OriginValue) → shown_text origins key ≡ shown_text origins stack) → CountsOneMore stack es fs
joined key stack es fs moved same = record {
  total = sum_joined (λ e. e.1) (key, 1) es fs moved;
  shown = λ origins text. sum_joined (weight_in origins text) (key, 1) es fs moved ∙ ap (λ t. shown_by origins text es + cond (is_same text t) 1 0) (same origins);
}

-- the texts with one more
pub shows_more : (origins : List OriginValue) (stack : SampledStack) (old new : List (SampledStack × ℕ)) (stacks : List (List ℕ)) (text : List ℕ) → CountsOneMore stack old new → shown_text origins stack ≡ text → ShowsStacks origins old stacks
    → ShowsStacks origins new (text ∷ stacks)
shows_more origins stack old new stacks text more is shows = λ q.
    let risen = more.shown origins q in
    let before = shows q in
    let after = counts_cons q text stacks in
    let here : weight_in origins q (stack, 1) ≡ one_if (is_same q text) = ap (λ t. cond (is_same q t) 1 0) is in
    omega arith

-- ---- the lines

-- so many of one text
abbrev repeated : ℕ → List ℕ → List (List ℕ) → List (List ℕ)
repeated zero s stacks = stacks
repeated (suc n) s stacks = s ∷ repeated n s stacks

repeated_lines : (n : ℕ) (s : List ℕ) (stacks : List (List ℕ)) → counted_times n s (counts_of stacks) ≡ counts_of (repeated n s stacks)
repeated_lines zero s stacks = refl
repeated_lines (suc n) s stacks = ap (counted_in s) (repeated_lines n s stacks)

repeated_count : (q s : List ℕ) (n : ℕ) (stacks : List (List ℕ)) → count_by (is_same q) (repeated n s stacks) ≡ cond (is_same q s) n 0 + count_by (is_same q) stacks
repeated_count q s zero stacks = go (is_same q s)
  where
    go : (b : Bool) → count_by (is_same q) stacks ≡ cond b 0 0 + count_by (is_same q) stacks
    go true = omega arith
    go false = omega arith
repeated_count q s (suc n) stacks =
    let one = counts_cons q s (repeated n s stacks) in
    let rest = repeated_count q s n stacks in
    let all = go (is_same q s) in
    omega arith
  where
    go : (b : Bool) → one_if b + cond b n 0 ≡ cond b (suc n) 0
    go true = omega arith
    go false = refl

-- the texts of all samples
abbrev spelled : List OriginValue → List (SampledStack × ℕ) → List (List ℕ) → List (List ℕ)
spelled origins [] stacks = stacks
spelled origins (e ∷ es) stacks = spelled origins es (repeated e.1 (shown_text origins e.0) stacks)

spelled_lines : (origins : List OriginValue) (es : List (SampledStack × ℕ)) (stacks : List (List ℕ)) → all_counted origins es (counts_of stacks) ≡ counts_of (spelled origins es stacks)
spelled_lines origins [] stacks = refl
spelled_lines origins (e ∷ es) stacks =
    ap (all_counted origins es) (repeated_lines e.1 (shown_text origins e.0) stacks) ∙ spelled_lines origins es (repeated e.1 (shown_text origins e.0) stacks)

spelled_count : (origins : List OriginValue) (q : List ℕ) (es : List (SampledStack × ℕ)) (stacks : List (List ℕ)) → count_by (is_same q) (spelled origins es stacks) ≡ shown_by origins q es + count_by (is_same q) stacks
spelled_count origins q [] stacks = omega arith
spelled_count origins q (e ∷ es) stacks =
    let here = repeated_count q (shown_text origins e.0) e.1 stacks in
    let rest = spelled_count origins q es (repeated e.1 (shown_text origins e.0) stacks) in
    let both = sum_by-cons (weight_in origins q) e es in
    omega arith

-- lists in which each text stands as often have the same lines
counts_same : (xs ys : List (List ℕ)) → ((q : List ℕ) → count_by (is_same q) xs ≡ count_by (is_same q) ys) → counts_of xs ≡ counts_of ys
counts_same xs ys same = same_lines (counts_of xs) (counts_of ys) (counts_up xs) (counts_up ys) (counts_some xs) (counts_some ys) (λ q. counts_for q xs ∙ (same q ∙ sym (counts_for q ys)))

pub all_lines : (origins : List OriginValue) (es : List (SampledStack × ℕ)) (stacks : List (List ℕ)) → ShowsStacks origins es stacks → all_counted origins es [] ≡ counts_of stacks
all_lines origins es stacks shows =
    spelled_lines origins es [] ∙ counts_same (spelled origins es []) stacks (λ q. let all = spelled_count origins q es [] in let is = shows q in omega arith)
