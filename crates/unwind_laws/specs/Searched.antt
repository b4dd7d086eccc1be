-- A search through call sites in order: the first that holds an address decides, or the first that begins past it.
use Rattle.std.specs.Prelude.{ℕ, List, [], ◌∷◌, nat_lt, if◌then◌else◌}
use Rattle.unwind_definitions.specs.Function.{Site, Action, Terminate}

abbrev pub action_of_sites : List Site → ℕ → Action
action_of_sites [] a = Terminate
action_of_sites (s ∷ ss) a = if nat_lt a s.range.from then Terminate else (if nat_lt a s.range.to then s.action else action_of_sites ss a)
