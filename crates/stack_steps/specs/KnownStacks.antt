-- Stacks of each of whose frames it is known how its caller's state follows, through modules of whatever format: in an ELF module
-- by facts that its tables say, at any address of code; in a Mach-O or a PE module since its unwind data describe the function. A
-- signal's frame, which an ELF module's tables say, leads to the state that the signal interrupted.
-- System V x86-64 psABI, section 3.2; DWARF 5 section 6.4.4 for the address of a call, by which a caller's row is found.
use Rattle.std.proofs.Common.{inl, inr}
use Rattle.std.specs.Prelude.{◌≡◌, ◌≢◌, ◌⊎◌, Bool, true, false, List, [], ◌∷◌}
use Rattle.unwind_definitions.specs.State.{State, IsState}
use Rattle.unwind_definitions.specs.Function.{Function}
use Rattle.unwind_definitions.specs.Chain.{Call}
use Rattle.frame_facts.specs.Facts.{Facts}
use Rattle.frame_facts.specs.FactChains.{address_asked, IsFactLink}
use Rattle.frame_facts.specs.SignalFrames.{SignalFrame, IsSignalLink}
use Rattle.format_definitions.specs.Calls.{IsDescribedCall}
use Rattle.format_definitions.specs.Modules.{FormatModule, Elf, Macho, Pe, IsUncoveredBy}
use Rattle.format_definitions.specs.Stops.{IsDescribedStop}
use Rattle.stack_steps.specs.Modules.{SpaceValue}
use Rattle.stack_steps.specs.SpaceViews.{process_of, formats_of}

-- a module is of another format than ELF
abbrev pub IsOtherFormat : FormatModule → Type 0
IsOtherFormat (Elf m) = ⊥
IsOtherFormat (Macho m) = Unit {0}
IsOtherFormat (Pe m) = Unit {0}

module _ (space : SpaceValue) where
  -- A state stands with facts from its caller's state, and the tables of an ELF module say them at the address asked.
  abbrev pub IsLinkByFacts : Bool → State → State → Type 0
  IsLinkByFacts interrupted s t = (facts : Facts) × IsFactLink (process_of space) interrupted s (record { facts = facts; caller = t })

  -- a state was stopped in a call in the body of a described function of a Mach-O or a PE module
  pub record IsOtherCall (s t : State) : Type 0 where
    pub state : IsState s
    pub functions : List Function
    pub call : Call
    pub called : IsDescribedCall space.image (formats_of space) functions s call
    pub other : IsOtherFormat called.lies.home
    pub caller : call.caller ≡ t

  -- it was interrupted where it stands in such a function, where unwind data of the module's format tell of it
  pub record IsOtherStop (s t : State) : Type 0 where
    pub functions : List Function
    pub call : Call
    pub stopped : IsDescribedStop space.image (formats_of space) functions s call
    pub other : IsOtherFormat stopped.lies.home
    pub caller : call.caller ≡ t

  abbrev pub IsLinkByFunction : Bool → State → State → Type 0
  IsLinkByFunction true s t = IsOtherStop s t
  IsLinkByFunction false s t = IsOtherCall s t

  -- A state and the state of its frame's caller. The mark says whether the state was interrupted where it stands, and was not stopped
  -- in a call.
  abbrev pub IsKnownLink : Bool → State → State → Type 0
  IsKnownLink interrupted s t = IsLinkByFacts interrupted s t ⊎ IsLinkByFunction interrupted s t

  -- A state stands in a signal's frame, and the signal interrupted another state.
  abbrev pub IsLinkBySignal : Bool → State → State → Type 0
  IsLinkBySignal interrupted s t = (frame : SignalFrame) × IsSignalLink (process_of space) interrupted s frame t

  -- a state and the next one of its stack: that of its frame's caller, or from a signal's frame the one that was interrupted
  abbrev pub IsStackLink : Bool → State → State → Type 0
  IsStackLink interrupted s t = IsKnownLink interrupted s t ⊎ IsLinkBySignal interrupted s t

  -- whether the next state was interrupted where it stands, as after a signal's frame; else it was stopped in a call
  abbrev pub is_by_signal : (interrupted : Bool) (s t : State) → IsStackLink interrupted s t → Bool
  is_by_signal interrupted s t (inl known) = false
  is_by_signal interrupted s t (inr signal) = true

  -- the stack ends at a return address that is 0, or whose address asked no module's unwind data cover
  pub record IsKnownEnd (interrupted : Bool) (s : State) : Type 0 where
    pub state : IsState s
    pub ends : (s.ra ≡ 0) ⊎ ((s.ra ≢ 0) × IsUncoveredBy space.image (formats_of space) (address_asked interrupted s))

  -- The states of a stack: the innermost one, and those of its callers outwards, through signals' frames those that were interrupted.
  -- These, and the innermost one where the mark says so, were interrupted where they stand; every other was stopped in a call.
  abbrev pub IsKnownStack : Bool → State → List State → Type 0
  IsKnownStack interrupted s [] = IsKnownEnd interrupted s
  IsKnownStack interrupted s (t ∷ callers) = (link : IsStackLink interrupted s t) × IsKnownStack (is_by_signal interrupted s t link) t callers

  -- none of a stack's frames is a signal's
  abbrev pub HasNoSignals : (interrupted : Bool) (s : State) (callers : List State) → IsKnownStack interrupted s callers → Type 0
  HasNoSignals interrupted s [] stack = Unit {0}
  HasNoSignals interrupted s (t ∷ callers) stack = (is_by_signal interrupted s t stack.0 ≡ false) × HasNoSignals (is_by_signal interrupted s t stack.0) t callers stack.1
