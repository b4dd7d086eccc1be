-- What a function without a language table asks.
use Rattle.std.proofs.Common.{◌≡◌, ℕ, List, Option, None, ap}
use Rattle.std.specs.Option.{option_map_or}
use Rattle.unwind_definitions.specs.Function.{Function, Site, NoAction, action_among, action_at}

pub silent_action : (f : Function) (a : ℕ) → f.sites ≡ None → action_at f a ≡ NoAction
silent_action f a e = ap (λ (o : Option (List Site)). option_map_or (λ sites. action_among sites a) o NoAction) e
