-- How functions are claimed, one after another.
use Rattle.std.specs.Prelude.{ℕ, Bool, true, false, List, [], ◌∷◌, ◌++◌, Some, None, is_some}
use Rattle.std.specs.Option.{option_map, unwrap_or}
use Rattle.unwind_definitions.specs.Prologue.{Step}
use Rattle.unwind_definitions.specs.Function.{Function, Action}

-- one more function, without steps, bodies and a language table
abbrev pub with_claim : ℕ → ℕ → Bool → List Function → List Function
with_claim start end outermost functions = functions ++ record { start = start; end = end; prologue = []; bodies = []; sites = None; outermost = outermost } ∷ []

-- the last function changed
abbrev pub with_last : (Function → Function) → List Function → List Function
with_last change [] = []
with_last change (f ∷ []) = change f ∷ []
with_last change (f ∷ g ∷ functions) = f ∷ with_last change (g ∷ functions)

abbrev pub is_some_claim : List Function → Bool
is_some_claim [] = false
is_some_claim (f ∷ functions) = true

-- a function with one more step, body range or call site, or with a language table
abbrev pub with_step : ℕ → Step → Function → Function
with_step end step f = record f { prologue = f.prologue ++ record { step = step; end = end } ∷ [] }

abbrev pub with_body : ℕ → ℕ → Function → Function
with_body start end f = record f { bodies = f.bodies ++ record { from = start; to = end } ∷ [] }

abbrev pub with_table : Function → Function
with_table f = record f { sites = Some (unwrap_or f.sites []) }

abbrev pub with_site : ℕ → ℕ → Action → Function → Function
with_site start end action f = record f { sites = option_map (λ sites. sites ++ record { range = record { from = start; to = end }; action = action } ∷ []) f.sites }

-- whether there is a last function, and it has a language table
abbrev pub is_some_table : List Function → Bool
is_some_table [] = false
is_some_table (f ∷ []) = is_some f.sites
is_some_table (f ∷ g ∷ functions) = is_some_table (g ∷ functions)
