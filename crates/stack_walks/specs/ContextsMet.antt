-- How many contexts are met on the way outwards. At each of them a description is searched once at most.
use Rattle.std.specs.Prelude.{ℕ, Bool, Option, length}
use Rattle.unwind_arch.specs.declared.x86_64.Context.{Context}
use Rattle.stack_walks.specs.WalkEnds.{reached_by, start_state, turned_from}
use Rattle.stack_walks.specs.FrameVisits.{Pass}
use Rattle.stack_steps.specs.Modules.{SpaceValue}

-- on the way outwards from a context, of so many at most
abbrev pub contexts_met : Option Pass → SpaceValue → ℕ → Context → Bool → ℕ
contexts_met pass space limit c interrupted =
    length (reached_by (turned_from pass space) limit (start_state c interrupted)).contexts
