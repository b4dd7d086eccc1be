-- What a walk over a stack gives of each of whose frames it is known how the caller's state follows.
use Rattle.std.proofs.Common.{inl, inr}
use Rattle.std.specs.Prelude.{ℕ, ◌<◌, ◌==◌, Bool, List, [], ◌∷◌, length, if◌then◌else◌}
use Rattle.unwind_definitions.specs.State.{State, Shows}
use Rattle.frame_facts.specs.FactChains.{address_asked}
use Rattle.unwind_arch.specs.declared.x86_64.Context.{Context}
use Rattle.unwind_arch.specs.ContextViews.{columns_of}
use Rattle.stack_steps.specs.declared.space.Module.{Module}
use Rattle.stack_steps.specs.Modules.{SpaceValue, module_at}
use Rattle.stack_steps.specs.KnownStacks.{IsStackLink, is_by_signal, IsKnownStack}
use Rattle.stack_walks.specs.declared.walk_end.EndReason.{EndReason}
use Rattle.stack_walks.specs.declared.walk_end.EndReason.TheVariants.{Outermost}
use Rattle.stack_walks.specs.WalkEnds.{front_uncovered}
use Rattle.stack_walks.specs.Walking.{EachShows}

-- A context shows the innermost state of such a stack, which has fewer callers than the limit. The mark says whether the context
-- was interrupted where it stands, and does not stand after a call.
pub record StartsKnownStack (space : SpaceValue) (c : Context) (limit : ℕ) (interrupted : Bool) (s : State) (callers : List State) : Type 0 where
  pub stack : IsKnownStack space interrupted s callers
  pub shows : Shows (columns_of c) s
  pub shorter : length callers < limit

module _ (space : SpaceValue) where
  -- The stack pointers of a stack's states strictly rise from each to its caller's. Past a signal's frame they may also fall: the
  -- handler may have run on an alternate stack.
  abbrev pub IsBelow : (interrupted : Bool) (s t : State) → IsStackLink space interrupted s t → Type 0
  IsBelow interrupted s t (inl known) = s.sp < t.sp
  IsBelow interrupted s t (inr signal) = Unit {0}

  abbrev pub StackRises : (interrupted : Bool) (s : State) (callers : List State) → IsKnownStack space interrupted s callers → Type 0
  StackRises interrupted s [] stack = Unit {0}
  StackRises interrupted s (t ∷ callers) stack = IsBelow interrupted s t stack.0 × StackRises (is_by_signal space interrupted s t stack.0) t callers stack.1

  -- contexts show the states of a stack one by one, from the innermost outwards, and their stack pointers rise
  pub record ShowStack (cs : List Context) (interrupted : Bool) (s : State) (callers : List State) (stack : IsKnownStack space interrupted s callers) : Type 0 where
    pub each : EachShows cs (s ∷ callers)
    pub rise : StackRises interrupted s callers stack

-- Why a walk goes no further than a state: it returns to 0, or nothing covers the address asked.
abbrev pub front_at : List Module → Bool → State → EndReason
front_at modules interrupted s =
    if s.ra == 0 then Outermost else front_uncovered (module_at modules (address_asked interrupted s)) (address_asked interrupted s)

-- at the outermost state of a stack, which may itself have been interrupted
abbrev pub end_reason_of_stack : (space : SpaceValue) (interrupted : Bool) (s : State) (callers : List State) → IsKnownStack space interrupted s callers → EndReason
end_reason_of_stack space interrupted s [] stack = front_at space.modules interrupted s
end_reason_of_stack space interrupted s (t ∷ callers) stack = end_reason_of_stack space (is_by_signal space interrupted s t stack.0) t callers stack.1
