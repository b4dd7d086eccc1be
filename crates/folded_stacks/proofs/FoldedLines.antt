-- What is folded of samples: each of them counts once, and the stack of each that is accepted has a line.
use Rattle.std.proofs.Common.{◌≡◌, ◌+◌, ◌≤◌, ℕ, suc, Bool, cond, List, [], ◌∷◌, length, Option, Some, None, Result, inl, inr, refl, sym, ap, subst, ◌∙◌, arith}
use Rattle.std.specs.Prelude.{◌⊎◌, IfOk, is_none}
use Rattle.std.specs.List.Sorted.{IsPermutation}
use Rattle.std.specs.List.{Contains, cons_option, count_by, filter_map}
use Rattle.std.proofs.lemmas.List.Sums.{sum_by-cons}
use Rattle.std.proofs.lemmas.Result.{IfOk-weaker}
use Rattle.unwind_laws.proofs.Booleans.{here_or_later, none_in_nil, later, first}
use Rattle.stack_steps.specs.Modules.{SpaceValue}
use Rattle.folded_stacks.specs.declared.samples.Sample.{Sample}
use Rattle.folded_stacks.specs.Runs.{runs_of}
use Rattle.folded_stacks.specs.Stacks.{NeverFall, is_same}
use Rattle.folded_stacks.proofs.RunLemmas.{runs_counted}
use Rattle.folded_stacks.specs.Counts.{FoldedValue, counts_of, HasStack, IsFolded}
use Rattle.folded_stacks.specs.Folding.{accepted, fold_of, refused_of, walked_stack}
use Rattle.folded_stacks.proofs.Orders.{is_same_by}
use Rattle.folded_stacks.proofs.Counting.{counts_cons, counts_for, counts_some, counts_total, counts_up, folded_by_counts, one_if, total}

pub counts_folded : (stacks : List (List ℕ)) → IsFolded stacks (counts_of stacks)
counts_folded stacks = folded_by_counts stacks (counts_of stacks) (counts_up stacks) (counts_some stacks) (λ q. counts_for q stacks)

-- ---- samples that are accepted, and others

module _ {X Y : Type 0} (f : X → Option Y) where
  abbrev pub gives_none : X → Bool
  gives_none x = is_none (f x)

  pub refused_cons : (x : X) (xs : List X) → count_by gives_none (x ∷ xs) ≡ one_if (gives_none x) + count_by gives_none xs
  refused_cons x xs = sum_by-cons (λ y. cond (gives_none y) 1 0) x xs

  pub each_counted : (xs : List X) → length (filter_map f xs) + count_by gives_none xs ≡ length xs
  each_counted [] = refl
  each_counted (x ∷ xs) = go (f x) refl (each_counted xs)
    where
      go : (o : Option Y) → f x ≡ o → length (filter_map f xs) + count_by gives_none xs ≡ length xs
          → length (cons_option (f x) (filter_map f xs)) + count_by gives_none (x ∷ xs) ≡ length (x ∷ xs)
      go None is rest =
          let here = refused_cons x xs in
          let one : one_if (gives_none x) ≡ 1 = rw is refl in
          let as_long : length (cons_option (f x) (filter_map f xs)) ≡ length (filter_map f xs) = rw is refl in
          omega arith
      go (Some y) is rest =
          let here = refused_cons x xs in
          let none : one_if (gives_none x) ≡ 0 = rw is refl in
          let longer : length (cons_option (f x) (filter_map f xs)) ≡ suc (length (filter_map f xs)) = rw is refl in
          omega arith

  pub given_contained : (xs : List X) (x : X) (y : Y) → Contains xs x → f x ≡ Some y → Contains (filter_map f xs) y
  given_contained [] x y has is = absurd (none_in_nil x has)
  given_contained (w ∷ xs) x y has is = go (f w) refl (here_or_later w xs x has) (λ there. given_contained xs x y there is)
    where
      go : (o : Option Y) → f w ≡ o → (w ≡ x) ⊎ Contains xs x → (Contains xs x → Contains (filter_map f xs) y) → Contains (cons_option (f w) (filter_map f xs)) y
      go None at (inl same) rest = let none : f x ≡ None = rw (← same) at in absurd cc
      go None at (inr there) rest = rw at (rest there)
      go (Some z) at (inl same) rest = let e : z ≡ y = let given : f x ≡ Some z = rw (← same) at in cc in rw at (subst (λ u. Contains (u ∷ filter_map f xs) y) (sym e) (first y (filter_map f xs)))
      go (Some z) at (inr there) rest = rw at (later z (filter_map f xs) y (rest there))

-- each sample counts once
pub adds_up : (space : SpaceValue) (limit : ℕ) (samples : List Sample) → total (counts_of (accepted space limit samples)) + refused_of space limit samples ≡ length samples
adds_up space limit samples =
    let lines = counts_total (accepted space limit samples) in
    let each = each_counted (walked_stack space limit) samples in
    omega arith

-- ---- lines of stacks

counted_there : (stacks : List (List ℕ)) (s : List ℕ) → Contains stacks s → 1 ≤ count_by (is_same s) stacks
counted_there [] s has = absurd (none_in_nil s has)
counted_there (t ∷ stacks) s has =
    let both = counts_cons s t stacks in
    elim (here_or_later t stacks s has) [
      | inl same ↦ let one : one_if (is_same s t) ≡ 1 = rw (is_same_by s t (sym same)) refl in omega arith
      | inr there ↦ let rest = counted_there stacks s there in omega arith
    ]

-- the stack of an accepted sample has a line
pub stack_has_line : (space : SpaceValue) (limit : ℕ) (samples : List Sample) (sample : Sample) (stack : List ℕ) → Contains samples sample → walked_stack space limit sample ≡ Some stack
    → HasStack (counts_of (accepted space limit samples)) stack
stack_has_line space limit samples sample stack has is =
    let stacks = accepted space limit samples in
    let there = given_contained (walked_stack space limit) samples sample stack has is in
    (count_by (is_same stack) stacks, ((counts_folded stacks).exact stack (count_by (is_same stack) stacks)).1 (counted_there stacks stack there, refl))

-- ---- what the code makes of stacks in order

pub runs_exact : {E : Type 0} (result : Result FoldedValue E) (space : SpaceValue) (limit : ℕ) (samples : List Sample) (stacks sorted : List (List ℕ)) (refused : ℕ) → stacks ≡ accepted space limit samples → refused ≡ refused_of space limit samples
    → IsPermutation stacks sorted → NeverFall sorted → IfOk result (λ folded. folded ≡ record { lines = runs_of sorted; refused = refused }) → IfOk result (λ folded. folded ≡ fold_of space limit samples)
unfolding fold_of
runs_exact result space limit samples stacks sorted refused from number moved rise runs =
    let lines = runs_counted stacks sorted moved rise ∙ ap counts_of from in
    IfOk-weaker result (λ folded. folded ≡ record { lines = runs_of sorted; refused = refused }) (λ folded. folded ≡ fold_of space limit samples) (λ folded is. is ∙ (λ i. record { lines = lines i; refused = number i })) runs

-- ---- what an answer that is exact says

module _ {E : Type 0} (result : Result FoldedValue E) (space : SpaceValue) (limit : ℕ) (samples : List Sample) (exact : IfOk result (λ folded. folded ≡ fold_of space limit samples)) where
  -- the answer's lines and number, by those that are due
  by_exact : (P : FoldedValue → Type 0) → P (record { lines = counts_of (accepted space limit samples); refused = refused_of space limit samples }) → IfOk result P
  unfolding fold_of
  by_exact P due = IfOk-weaker result (λ folded. folded ≡ fold_of space limit samples) P (λ folded is. subst P (sym is) due) exact

  pub lines_folded : IfOk result (λ folded. IsFolded (accepted space limit samples) folded.lines)
  lines_folded = by_exact (λ folded. IsFolded (accepted space limit samples) folded.lines) (counts_folded (accepted space limit samples))

  pub refused_folded : IfOk result (λ folded. folded.refused ≡ refused_of space limit samples)
  refused_folded = by_exact (λ folded. folded.refused ≡ refused_of space limit samples) refl

  pub total_folded : IfOk result (λ folded. total folded.lines + folded.refused ≡ length samples)
  total_folded = by_exact (λ folded. total folded.lines + folded.refused ≡ length samples) (adds_up space limit samples)

  pub stack_folded : (sample : Sample) (stack : List ℕ) → Contains samples sample → walked_stack space limit sample ≡ Some stack → IfOk result (λ folded. HasStack folded.lines stack)
  stack_folded sample stack has is = by_exact (λ folded. HasStack folded.lines stack) (stack_has_line space limit samples sample stack has is)
