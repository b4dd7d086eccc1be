-- Rules that find registers in memory close below the CFA: one look at that memory serves all of them.
use Rattle.std.specs.Prelude.{ℕ, ◌+◌, ◌^◌, ◌<◌, ◌≤◌, List}
use Rattle.std.specs.List.{AllByRecursion}
use Rattle.unwind_definitions.specs.Instructions.{Rule, Offset}

-- A column of x86-64's general registers or its return address is found in a word of so many bytes below the CFA.
abbrev pub IsSavedBelow : ℕ → ℕ → Rule → Type 0
IsSavedBelow reach c (Offset n) = (c ≤ 16) × (2 ^ 64 ≤ n + reach) × (n + 8 ≤ 2 ^ 64)
IsSavedBelow reach c _ = ⊥

abbrev pub AreSavedBelow : ℕ → List (ℕ × Rule) → Type 0
AreSavedBelow reach rules = AllByRecursion (λ (p : ℕ × Rule). IsSavedBelow reach p.0 p.1) rules

-- so many bytes hold all that rules find, or it is 0
abbrev pub IsReach : ℕ → List (ℕ × Rule) → Type 0
IsReach reach rules = 0 < reach → AreSavedBelow reach rules
