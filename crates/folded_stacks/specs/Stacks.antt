-- Stacks by their return addresses, and their order.
use Rattle.std.specs.Prelude.{◌≡◌, ◌<◌, ◌⊎◌, ℕ, Bool, false, List, [], ◌∷◌, map, reverse, filter, nat_lt}
use Rattle.std.specs.declared.cmp.Ordering.{Ordering}
use Rattle.std.specs.Ordering.{is_eq, is_lt, nat_cmp}
use Rattle.std.specs.Cmp.Lexicographic.{slice_cmp}
use Rattle.unwind_definitions.specs.State.{State}
use Rattle.unwind_arch.specs.declared.x86_64.Context.{Context}

-- ---- stacks

-- return addresses from the innermost outwards, the other way round and without those that are 0
abbrev pub outermost_first : List ℕ → List ℕ
outermost_first returns = reverse (filter (nat_lt 0) returns)

-- the stack of the states of a walk
abbrev pub stack_of : List Context → List ℕ
stack_of states = outermost_first (map (λ (c : Context). c.ra) states)

-- the stack of the states of a chain
abbrev pub stack_shown : List State → List ℕ
stack_shown states = outermost_first (map (λ (s : State). s.ra) states)

-- ---- their order

-- Where two stacks first differ, the address of one is lower than the other's, or it ends there and the other goes on.
abbrev pub ComesBefore : List ℕ → List ℕ → Type 0
ComesBefore [] [] = ⊥
ComesBefore [] (b ∷ t) = Unit {0}
ComesBefore (a ∷ s) [] = ⊥
ComesBefore (a ∷ s) (b ∷ t) = (a < b) ⊎ ((a ≡ b) × ComesBefore s t)

-- The same as a comparison, which answers `Equal` at one and the same stack.
abbrev pub stack_order : List ℕ → List ℕ → Ordering
stack_order = slice_cmp nat_cmp

-- two stacks are one
abbrev pub is_same : List ℕ → List ℕ → Bool
is_same s t = is_eq (stack_order s t)

-- no stack comes before the one that stands before it
abbrev pub NeverFall : List (List ℕ) → Type 0
NeverFall [] = Unit {0}
NeverFall (s ∷ []) = Unit {0}
NeverFall (s ∷ t ∷ ss) = (is_lt (stack_order t s) ≡ false) × NeverFall (t ∷ ss)
