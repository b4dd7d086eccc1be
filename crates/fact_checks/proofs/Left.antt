-- Claims that are left, in order or not.
use Rattle.std.proofs.Common.{◌≡◌, ℕ, Bool, false, true, cond, Option, Some, None, option_map, suc, ◌+◌, ◌<◌, List, [], ◌∷◌, length, map, drop, get_or, refl, ap, subst, ◌∙◌, arith}
use Rattle.std.proofs.Math.Numerals.{suc-eq-add-one}
use Rattle.std.proofs.Math.Seq.{drop-cons}
use Rattle.std.specs.Prelude.{nat_le, nat_lt}
use Rattle.std.proofs.lemmas.Bool.{and_parts, leb-true, ltb-true}
use Rattle.frame_facts.specs.Claims.{Claim}
use Rattle.fact_checks.specs.declared.facts.ClaimedFacts.{ClaimedFacts}
use Rattle.fact_checks.specs.declared.facts.KnownRegister.{KnownRegister}
use Rattle.fact_checks.specs.InOrder.{AreInOrder, IsInOrder, first_out_of_order, is_in_order}

abbrev unknown : KnownRegister
unknown = record { slot = None; is_kept = false }

-- what stands for a claim past the last one, which isn't read
abbrev pub unread : ClaimedFacts
unread = record { from = 0; to = 0; rsp = None; rbp = None; registers = record { rbx = unknown; rbp = unknown; r12 = unknown; r13 = unknown; r14 = unknown; r15 = unknown }; is_outermost = false }

module _ {X : Type 0} (f : X → Claim) (xs : List X) (i : ℕ) (d : X) (below : i < length xs) where
  abbrev this : Claim
  this = f (get_or xs i d)

  left_is : map f (drop i xs) ≡ this ∷ map f (drop (i + 1) xs)
  left_is = subst (λ n. map f (drop i xs) ≡ this ∷ map f (drop n xs)) (suc-eq-add-one i) (ap (map f) (drop-cons xs i d below))

  -- the claim at hand, and those after it
  pub order_split : (low : ℕ) → AreInOrder low (map f (drop i xs)) → IsInOrder low this × AreInOrder this.range.to (map f (drop (i + 1) xs))
  order_split low order = subst (AreInOrder low) left_is order

  pub out_here : (low : ℕ) → is_in_order low this ≡ false → first_out_of_order low (map f (drop i xs)) ≡ Some 0
  out_here low fails = ap (first_out_of_order low) left_is ∙ ap (λ b. cond b (option_map suc (first_out_of_order this.range.to (map f (drop (i + 1) xs)))) (Some 0)) fails

  pub out_later : (low : ℕ) → is_in_order low this ≡ true → first_out_of_order low (map f (drop i xs)) ≡ option_map suc (first_out_of_order this.range.to (map f (drop (i + 1) xs)))
  out_later low holds = ap (first_out_of_order low) left_is ∙ ap (λ b. cond b (option_map suc (first_out_of_order this.range.to (map f (drop (i + 1) xs)))) (Some 0)) holds

-- a place among what is left, as one among all
pub place_past : (i : ℕ) (o : Option ℕ) → option_map (λ j. i + j) (option_map suc o) ≡ option_map (λ j. i + 1 + j) o
place_past i None = refl
place_past i (Some j) = ap Some (omega arith)

pub place_first : (o : Option ℕ) → option_map (λ j. 0 + j) o ≡ o
place_first None = refl
place_first (Some j) = ap Some (omega arith)

-- where none is out of order, all are in order
pub in_order : (low : ℕ) (cs : List Claim) → first_out_of_order low cs ≡ None → AreInOrder low cs
in_order low [] none = tt
in_order low (c ∷ cs) none = go (is_in_order low c) refl (first_out_of_order c.range.to cs) (in_order c.range.to cs) none
  where
    go : (b : Bool) → is_in_order low c ≡ b → (o : Option ℕ) → (o ≡ None → AreInOrder c.range.to cs) → cond b (option_map suc o) (Some 0) ≡ None → AreInOrder low (c ∷ cs)
    go false here o later none = absurd cc
    go true here (Some i) later none = absurd cc
    go true here None later none = let both = and_parts (nat_le low c.range.from) (nat_lt c.range.from c.range.to) here in ((leb-true low c.range.from both.0, ltb-true c.range.from c.range.to both.1), later refl)
