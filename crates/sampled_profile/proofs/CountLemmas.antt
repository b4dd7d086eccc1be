-- So many samples more that show a stack, in a map of counts by texts.
use Rattle.std.proofs.Common.{◌≡◌, ◌≢◌, ◌+◌, ◌≤◌, ℕ, zero, suc, Bool, true, false, cond, Ordering, Less, Equal, Greater, List, [], ◌∷◌, Some, None, refl, sym, ap, ◌∙◌, add-one, arith}
use Rattle.std.specs.Prelude.{Vec}
use Rattle.std.specs.Map.{keys_of, lookup}
use Rattle.std.specs.BTreeMap.{insert_entry}
use Rattle.std.specs.List.Sorted.{IsStrictlySortedBy}
use Rattle.folded_stacks.specs.Stacks.{is_same, stack_order}
use Rattle.std.specs.Ordering.{match_ordering}
use Rattle.folded_stacks.specs.Counts.{StackCount, stack_count, counted_in, Ascend}
use Rattle.folded_stacks.proofs.Orders.{before_other, before_then, same_order, says}
use Rattle.folded_stacks.proofs.Counting.{StandsBefore, ascend_first, total, total_cons}
use Rattle.sampled_profile.specs.CountViews.{counted_times, lines_of}

-- ---- so many samples more

-- so many at once
abbrev pub added : ℕ → List ℕ → List StackCount → List StackCount
added n s [] = stack_count s n ∷ []
added n s (l ∷ ls) = match_ordering (stack_order s l.stack) (stack_count s n ∷ l ∷ ls) (stack_count l.stack (l.count + n) ∷ ls) (l ∷ added n s ls)

added_once : (s : List ℕ) (ls : List StackCount) → counted_in s ls ≡ added 1 s ls
added_once s [] = refl
added_once s (l ∷ ls) = go (stack_order s l.stack) refl (added_once s ls)
  where
    go : (r : Ordering) → stack_order s l.stack ≡ r → counted_in s ls ≡ added 1 s ls → counted_in s (l ∷ ls) ≡ added 1 s (l ∷ ls)
    go Less is rest = rw is refl
    go Equal is rest = rw is refl
    go Greater is rest = rw is (ap (λ ms. l ∷ ms) rest)

added_more : (n : ℕ) (s : List ℕ) (ls : List StackCount) → counted_in s (added n s ls) ≡ added (suc n) s ls
added_more n s [] = rw (same_order s s refl) (ap (λ k. stack_count s k ∷ []) (add-one n))
added_more n s (l ∷ ls) = go (stack_order s l.stack) refl (added_more n s ls)
  where
    go : (r : Ordering) → stack_order s l.stack ≡ r → counted_in s (added n s ls) ≡ added (suc n) s ls → counted_in s (added n s (l ∷ ls)) ≡ added (suc n) s (l ∷ ls)
    go Less is rest = rw (is, same_order s s refl) (ap (λ k. stack_count s k ∷ l ∷ ls) (add-one n))
    go Equal is rest = let more : l.count + n + 1 ≡ l.count + suc n = omega arith in rw (is, is) (ap (λ k. stack_count l.stack k ∷ ls) more)
    go Greater is rest = rw (is, is) (ap (λ ms. l ∷ ms) rest)

-- are as many, one after another
pub times_added : (n : ℕ) (s : List ℕ) (ls : List StackCount) → counted_times (suc n) s ls ≡ added (suc n) s ls
times_added zero s ls = added_once s ls
times_added (suc n) s ls = ap (counted_in s) (times_added n s ls) ∙ added_more (suc n) s ls

pub some_times : (n : ℕ) (s : List ℕ) (ls : List StackCount) → n ≢ 0 → counted_times n s ls ≡ added n s ls
some_times zero s ls some = absurd (some refl)
some_times (suc n) s ls some = times_added n s ls

added_total : (n : ℕ) (s : List ℕ) (ls : List StackCount) → total (added n s ls) ≡ total ls + n
added_total n s [] = let one = total_cons (stack_count s n) [] in omega arith
added_total n s (l ∷ ls) = go (stack_order s l.stack) refl (added_total n s ls)
  where
    go : (r : Ordering) → stack_order s l.stack ≡ r → total (added n s ls) ≡ total ls + n → total (added n s (l ∷ ls)) ≡ total (l ∷ ls) + n
    go Less is rest = let new = total_cons (stack_count s n) (l ∷ ls) in rw is (omega arith)
    go Equal is rest = let old = total_cons l ls in let new = total_cons (stack_count l.stack (l.count + n)) ls in rw is (omega arith)
    go Greater is rest = let old = total_cons l ls in let new = total_cons l (added n s ls) in rw is (omega arith)

pub times_total : (n : ℕ) (s : List ℕ) (ls : List StackCount) → total (counted_times n s ls) ≡ total ls + n
times_total zero s ls = omega arith
times_total (suc n) s ls = ap total (times_added n s ls) ∙ added_total (suc n) s ls

-- ---- in a map

module _ {Z : Type 0} where
  abbrev pub key_order : Vec ℕ Z → Vec ℕ Z → Ordering
  key_order a b = stack_order a.items b.items

  -- whether a text is a key
  abbrev pub is_key : List ℕ → Vec ℕ Z → Bool
  is_key text k = is_same text k.items

  pub keys_ascend : (es : List (Vec ℕ Z × ℕ)) → IsStrictlySortedBy key_order (keys_of es) → Ascend (lines_of es)
  unfolding IsStrictlySortedBy
  keys_ascend [] up = tt
  keys_ascend (e ∷ []) up = tt
  keys_ascend (e ∷ f ∷ es) up = (says e.0.items f.0.items Less up.0.0, keys_ascend (f ∷ es) up.1)

  none_before : (text : List ℕ) (es : List (Vec ℕ Z × ℕ)) → StandsBefore text (lines_of es) → Ascend (lines_of es) → lookup (is_key text) es ≡ None
  none_before text [] h up = refl
  none_before text (e ∷ []) h up = rw (before_other text e.0.items h) refl
  none_before text (e ∷ f ∷ es) h up = rw (before_other text e.0.items h) (none_before text (f ∷ es) (before_then text e.0.items f.0.items h up.0) up.1)

  -- one that isn't there gets a line
  pub put_new : (key : Vec ℕ Z) (n : ℕ) (es : List (Vec ℕ Z × ℕ)) → lookup (is_key key.items) es ≡ None → lines_of (insert_entry key_order es key n) ≡ added n key.items (lines_of es)
  put_new key n [] is = refl
  put_new key n (e ∷ es) is = go (stack_order key.items e.0.items) refl is (put_new key n es)
    where
      go : (r : Ordering) → stack_order key.items e.0.items ≡ r → lookup (is_key key.items) (e ∷ es) ≡ None → (lookup (is_key key.items) es ≡ None → lines_of (insert_entry key_order es key n) ≡ added n key.items (lines_of es)) →
          lines_of (insert_entry key_order (e ∷ es) key n) ≡ added n key.items (lines_of (e ∷ es))
      go Less order is rest = rw order refl
      go Equal order is rest = let there : Some e.1 ≡ None = rw order at is in absurd cc
      go Greater order is rest = let later : lookup (is_key key.items) es ≡ None = rw order at is in rw order (ap (λ ls. stack_count e.0.items e.1 ∷ ls) (rest later))

  -- of a text that is there the number that it had and the new one are put in its place
  pub put_known : (key again : Vec ℕ Z) (n m : ℕ) (es : List (Vec ℕ Z × ℕ)) → again.items ≡ key.items → Ascend (lines_of es) → lookup (is_key key.items) es ≡ Some m
      → lines_of (insert_entry key_order (insert_entry key_order es key n) again (m + n)) ≡ added n key.items (lines_of es)
  put_known key again n m [] same up is = absurd cc
  put_known key again n m (e ∷ es) same up is = go (stack_order key.items e.0.items) refl is (put_known key again n m es same (ascend_first (stack_count e.0.items e.1) (lines_of es) up).1)
    where
      go : (r : Ordering) → stack_order key.items e.0.items ≡ r → lookup (is_key key.items) (e ∷ es) ≡ Some m
          → (lookup (is_key key.items) es ≡ Some m → lines_of (insert_entry key_order (insert_entry key_order es key n) again (m + n)) ≡ added n key.items (lines_of es)) →
          lines_of (insert_entry key_order (insert_entry key_order (e ∷ es) key n) again (m + n)) ≡ added n key.items (lines_of (e ∷ es))
      go Less order is rest = let none : None ≡ Some m = sym (none_before key.items (e ∷ es) (says key.items e.0.items Less order) up) ∙ is in absurd cc
      go Equal order is rest =
          let there : Some e.1 ≡ Some m = rw order at is in
          let had : e.1 ≡ m = cc in
          let as_well : stack_order again.items e.0.items ≡ Equal = rw same order in
          rw (order, as_well) (ap (λ k. stack_count e.0.items (k + n) ∷ lines_of es) (sym had))
      go Greater order is rest =
          let later : lookup (is_key key.items) es ≡ Some m = rw order at is in
          let as_well : stack_order again.items e.0.items ≡ Greater = rw same order in
          rw (order, as_well) (ap (λ ls. stack_count e.0.items e.1 ∷ ls) (rest later))

  -- a count is at most the sum of all
  pub count_fits : (text : List ℕ) (n : ℕ) (es : List (Vec ℕ Z × ℕ)) → lookup (is_key text) es ≡ Some n → n ≤ total (lines_of es)
  count_fits text n [] is = absurd cc
  count_fits text n (e ∷ es) is = go (is_same text e.0.items) is (count_fits text n es)
    where
      go : (b : Bool) → cond b (Some e.1) (lookup (is_key text) es) ≡ Some n → (lookup (is_key text) es ≡ Some n → n ≤ total (lines_of es)) → n ≤ total (lines_of (e ∷ es))
      go true is rest = let same : e.1 ≡ n = cc in let all = total_cons (stack_count e.0.items e.1) (lines_of es) in omega arith
      go false is rest = let all = total_cons (stack_count e.0.items e.1) (lines_of es) in let fits = rest is in omega arith
