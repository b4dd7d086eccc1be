-- Chains of states that tables lead through: each stands with facts that they say, from the next.
-- System V x86-64 psABI, section 3.2; DWARF 5 section 6.4.4 for the address of a call, by which a caller's row is found.
use Rattle.std.specs.Prelude.{◌≡◌, ◌≢◌, ◌⊎◌, ℕ, ◌-◌, Bool, false, List, [], ◌∷◌, if◌then◌else◌}
use Rattle.unwind_definitions.specs.State.{State, IsState}
use Rattle.unwind_definitions.specs.Module.{Process, IsUncovered}
use Rattle.frame_facts.specs.Facts.{Facts, StandsWith}
use Rattle.frame_facts.specs.FactTables.{AreSaidAt}

-- a frame: what is known where its state stands, and its caller's state
pub record FactFrame : Type 0 where
  pub facts : Facts
  pub caller : State

-- The address asked: that of a state which was interrupted there; else the state was stopped in a call, whose last byte is the one
-- before its return address.
abbrev pub address_asked : Bool → State → ℕ
address_asked interrupted s = if interrupted then s.ra else s.ra - 1

-- the states of a chain, the innermost first
abbrev pub chain_states : State → List FactFrame → List State
chain_states s [] = s ∷ []
chain_states s (f ∷ frames) = s ∷ chain_states f.caller frames

module _ (p : Process) where
  -- A state stands with facts from its caller's, and they are said at the address asked. So the caller of an outermost
  -- frame, whose return address is 0, is the last state of its chain.
  pub record IsFactLink (interrupted : Bool) (s : State) (f : FactFrame) : Type 0 where
    pub state : IsState s
    pub returns : s.ra ≢ 0
    pub stands : StandsWith p.image f.facts f.caller s
    pub said : AreSaidAt p (address_asked interrupted s) f.facts

  -- the stack ends at a return address that is 0, or whose address asked no description contains
  pub record IsFactEnd (interrupted : Bool) (s : State) : Type 0 where
    pub state : IsState s
    pub ends : (s.ra ≡ 0) ⊎ ((s.ra ≢ 0) × IsUncovered p (address_asked interrupted s))

  -- A chain of states and facts. Its start may have been interrupted where it stands; every other state was stopped in a call.
  abbrev pub IsFactChain : Bool → State → List FactFrame → Type 0
  IsFactChain interrupted s [] = IsFactEnd interrupted s
  IsFactChain interrupted s (f ∷ frames) = IsFactLink interrupted s f × IsFactChain false f.caller frames
