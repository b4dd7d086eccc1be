-- A function of the program, as its compiler knows it: its range, its prologue, where its body lies, and what its language
-- asks of a frame that is stopped in a call. Itanium C++ ABI, exception handling, level I and II, for the actions.
use Rattle.std.specs.Prelude.{◌≡◌, ◌≢◌, ℕ, ◌+◌, ◌<◌, ◌≤◌, Bool, ◌&&◌, List, [], ◌∷◌, map, Option, None, IfSome, IsTrue, nat_le, nat_lt}
use Rattle.std.specs.List.{AllByRecursion, find, list_any}
use Rattle.std.specs.Option.{option_map_or}
use Rattle.unwind_definitions.specs.Prologue.{Convention, PrologueStep, IsPrologue}

-- the addresses from one on up to another, which isn't in it
pub record Range : Type 0 where
  pub from : ℕ
  pub to : ℕ

abbrev pub in_range : ℕ → Range → Bool
in_range a r = nat_le r.from a && nat_lt a r.to

-- nonempty ranges that ascend and share no address, inside low to high
abbrev pub AreWithin : ℕ → ℕ → List Range → Type 0
AreWithin low high [] = Unit {0}
AreWithin low high (r ∷ ranges) = (low ≤ r.from) × (r.from < r.to) × (r.to ≤ high) × AreWithin r.to high ranges

-- What is asked of a frame: nothing, or to enter a landing pad, for a cleanup or for a handler; or to end the program.
pub data Action : Type 0 where
  NoAction : Action
  Cleanup Catch Filter : ℕ → Action
  Terminate : Action

-- the calls in a range have an action
pub record Site : Type 0 where
  pub range : Range
  pub action : Action

pub record Function : Type 0 where
  pub start : ℕ
  pub end : ℕ
  pub prologue : List PrologueStep
  -- where all steps have ended, and none is undone
  pub bodies : List Range
  -- its language table, if it has one
  pub sites : Option (List Site)
  -- the first function of a stack, as _start is
  pub outermost : Bool

abbrev pub last_end : List PrologueStep → ℕ
last_end [] = 0
last_end (p ∷ []) = p.end
last_end (p ∷ q ∷ prologue) = last_end (q ∷ prologue)

-- a landing pad lies inside the function, and above its start
abbrev pub IsPad : Function → ℕ → Type 0
IsPad f pad = (f.start < pad) × (pad < f.end)

-- no site ends the program
abbrev pub MayAsk : Function → Action → Type 0
MayAsk f NoAction = Unit {0}
MayAsk f (Cleanup pad) = IsPad f pad
MayAsk f (Catch pad) = IsPad f pad
MayAsk f (Filter pad) = IsPad f pad
MayAsk f Terminate = ⊥

abbrev pub ranges_of : List Site → List Range
ranges_of sites = map (λ (s : Site). s.range) sites

pub record AreSitesOf (f : Function) (sites : List Site) : Type 0 where
  pub ranges : AreWithin f.start f.end (ranges_of sites)
  pub actions : AllByRecursion (λ (s : Site). MayAsk f s.action) sites

pub record IsFunction (convention : Convention) (f : Function) : Type 0 where
  pub prologue : IsPrologue convention f.prologue
  pub has_body : f.bodies ≢ []
  pub bodies : AreWithin (f.start + last_end f.prologue) f.end f.bodies
  pub sites : IfSome f.sites (AreSitesOf f)
  pub outermost : IsTrue f.outermost → (f.prologue ≡ []) × (f.sites ≡ None)

-- an address lies in the body
abbrev pub in_body : Function → ℕ → Bool
in_body f a = list_any (in_range a) f.bodies

-- the start of the first range, or another address where there is none
abbrev pub first_from : ℕ → List Range → ℕ
first_from other [] = other
first_from other (r ∷ ranges) = r.from

-- where the body starts
abbrev pub first_body : Function → ℕ
first_body f = first_from f.end f.bodies

-- the action of the site that holds an address; to end the program where none does
abbrev pub action_among : List Site → ℕ → Action
action_among sites a = option_map_or (λ (s : Site). s.action) (find (λ (s : Site). in_range a s.range) sites) Terminate

-- what a function's language asks at an address: nothing, where it has no language table
abbrev pub action_at : Function → ℕ → Action
action_at f a = option_map_or (λ sites. action_among sites a) f.sites NoAction
