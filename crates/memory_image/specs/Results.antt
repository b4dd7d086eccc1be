-- Answers that are values or errors, one after another.
use Rattle.std.specs.Prelude.{Result, Ok, Err}
use Rattle.std.specs.Result.{result_map_both}

-- what follows a value; an error stays
infixl 10 ◌>>=◌
abbrev pub ◌>>=◌ : {A B E : Type 0} → Result A E → (A → Result B E) → Result B E
(Ok x) >>= next = next x
(Err e) >>= next = Err e

-- a value seen by a view; an error stays
abbrev pub result_map : {A B E : Type 0} → (A → B) → Result A E → Result B E
result_map view = result_map_both view (λ e. e)
