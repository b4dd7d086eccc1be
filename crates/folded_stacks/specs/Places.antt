-- Stacks whose addresses stand one after another in one list. No public clause cites this.
use Rattle.std.specs.Prelude.{◌≡◌, ℕ, ◌+◌, ◌≤◌, List, ◌++◌, length, take, drop, map}
use Rattle.std.specs.List.{All}
use Rattle.folded_stacks.specs.declared.stacks.Place.{Place}

-- the addresses at a place
abbrev pub stack_at : List ℕ → Place → List ℕ
stack_at addresses p = take p.len (drop p.start addresses)

abbrev pub stacks_at : List ℕ → List Place → List (List ℕ)
stacks_at addresses places = map (stack_at addresses) places

-- a place ends where the addresses do, or before
abbrev pub LiesWithin : List ℕ → Place → Type 0
LiesWithin addresses p = p.start + p.len ≤ length addresses

abbrev pub LieWithin : List ℕ → List Place → Type 0
LieWithin addresses places = All (LiesWithin addresses) places

-- more may stand after what stood there
abbrev pub Extends : List ℕ → List ℕ → Type 0
Extends old new = (more : List ℕ) × (new ≡ old ++ more)
