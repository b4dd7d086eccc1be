-- Running a program from body to body. No public clause cites this.
use Rattle.std.specs.Prelude.{◌≡◌, ℕ, ◌+◌, ◌*◌, ◌^◌, ◌<◌, ◌≤◌, List, length, Result, IfSome}
use Rattle.unwind_definitions.specs.declared.error.Error.{Error as Fault}
use Rattle.unwind_definitions.specs.Input.{Input}
use Rattle.unwind_definitions.specs.Instructions.{Coding, Instruction, Program, program_from}
use Rattle.unwind_definitions.specs.Row.{RowInstructions}
use Rattle.frame_rows.specs.BodySteps.{IsStateAt, IsMemoryAt}
use Rattle.frame_rows.specs.Movable.{IsMovable}
use Rattle.frame_rows.specs.RowValue.{RowValue}
use Rattle.frame_rows.specs.Turns.{Moves, TakesFirst}
use Rattle.frame_rows.specs.declared.machine.Machine.{Machine}
use Rattle.frame_rows.specs.declared.body_run.BodyRun.{BodyRun as Walker}
use Rattle.frame_rows.specs.declared.stretch.Turn.{Turn}
use Rattle.std.specs.Prelude.{Ok}

-- a machine's rows are the bodies at the places where a run stands
pub record StandsFor (bodies : List (Result RowValue Fault)) (s : Walker) (m : Machine) : Type 0 where
  pub here : m.location ≡ s.location
  pub state : IsStateAt bodies s.place m.state
  pub remembered : IsMemoryAt bodies s.remembered m.remembered

-- these places are among those of all bodies
abbrev pub IsWithin : List (Result RowValue Fault) → Walker → Type 0
IsWithin bodies s = (s.place < length bodies) × (s.first < length bodies) × IfSome s.remembered (λ place. place < length bodies)

-- the rules of the rows that its bytes may still make can be counted, of each at most 32
abbrev pub HasRoom : Walker → Type 0
HasRoom s = s.rule_count + 32 * length s.rest.now < 2 ^ 63

-- an instruction moves a machine for which it stands to one for which it stands then
pub record StandsAfter (bodies : List (Result RowValue Fault)) (start : ℕ) (run : RowInstructions) (i : Instruction) (turn : Turn) (new : Walker) : Type 0 where
  pub machine : Machine
  pub moves : Moves start run i (Ok turn) machine
  pub stands : StandsFor bodies new machine

-- these bytes are left of a program
pub record IsLeft (coding : Coding) (rest : List ℕ) (q : Program) : Type 0 where
  pub input : Input
  pub turns : ℕ
  pub bytes : input.bytes ≡ rest
  pub enough : length rest ≤ turns
  pub is : q ≡ program_from turns coding input

-- a turn of a program whose bytes are left leads to one whose bytes are left then
pub record TakesTurn (bodies : List (Result RowValue Fault)) (coding : Coding) (start : ℕ) (run : RowInstructions) (q : Program) (turn : Turn) (new : Walker) : Type 0 where
  pub machine : Machine
  pub rest : Program
  pub takes : TakesFirst start run q (Ok turn) machine rest
  pub stands : StandsFor bodies new machine
  pub left : IsLeft coding new.rest.now rest
  pub movable : IsMovable rest → IsMovable q
