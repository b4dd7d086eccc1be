-- Claims, of a range of code and what is known throughout it; and when a module's tables say them.
-- DWARF 5 sections 6.4.1 and 6.4.2.1: a row holds from its location up to the next one, and which instructions begin a new row.
use Rattle.std.specs.Prelude.{◌≡◌, ℕ, ◌+◌, ◌<◌, ◌≤◌, false, List, [], ◌∷◌, IsTrue}
use Rattle.std.specs.List.{Contains, AllByRecursion}
use Rattle.memory_image.specs.Image.{Span}
use Rattle.unwind_definitions.specs.Pointers.{Bases}
use Rattle.unwind_definitions.specs.Instructions.{Instruction, Advance, SetLocation, program}
use Rattle.unwind_definitions.specs.Entries.{Fde, coding_of}
use Rattle.unwind_definitions.specs.Scan.{fdes_of}
use Rattle.unwind_definitions.specs.Function.{Range, in_range}
use Rattle.unwind_definitions.specs.DescribedRows.{HasRow}
use Rattle.unwind_definitions.specs.Module.{Module, bases_of}
use Rattle.frame_facts.specs.Facts.{Facts}
use Rattle.frame_facts.specs.FactRows.{SaysFacts}
use Rattle.frame_facts.specs.FactTables.{HasTables}

-- a range of code, and what is known at each address of it
pub record Claim : Type 0 where
  pub range : Range
  pub facts : Facts

-- a description, which isn't one of a signal's frame, contains the range, and its row at each address there says the facts
pub record SaysClaim (bases : Bases) (fde : Fde) (c : Claim) : Type 0 where
  pub from : fde.start ≤ c.range.from
  pub to : c.range.to ≤ fde.start + fde.size
  pub unmarked : fde.cie.letters.signal ≡ false
  pub each : (pc : ℕ) → IsTrue (in_range pc c.range) → HasRow bases fde pc (SaysFacts c.facts)

-- one of a list of descriptions says a claim
pub record IsClaimSaid (bases : Bases) (fdes : List Fde) (c : Claim) : Type 0 where
  pub fde : Fde
  pub listed : Contains fdes fde
  pub says : SaysClaim bases fde c

-- A module's tables say claims: each is said by one of its descriptions.
pub record SaysClaims (image : List Span) (m : Module) (claims : List Claim) : Type 0 where
  pub tables : HasTables image m
  pub each : AllByRecursion (IsClaimSaid (bases_of m tables.frame) (fdes_of tables.entries)) claims

-- ---- the same by one row for each stretch of addresses that share it

-- the locations at which instructions begin new rows, the first row's location being this
abbrev pub locations : ℕ → List Instruction → List ℕ
locations at [] = []
locations at (Advance n ∷ is) = (at + n) ∷ locations (at + n) is
locations at (SetLocation a ∷ is) = a ∷ locations a is
locations at (i ∷ is) = locations at is

abbrev pub locations_of : Bases → Fde → List ℕ
locations_of bases fde = locations fde.start (program (coding_of bases fde.cie) fde.program).instructions

-- where an address lies inside the claim's range, above its start, the row there says the facts
abbrev pub SaysAtInside : Bases → Fde → Claim → ℕ → Type 0
SaysAtInside bases fde c a = c.range.from < a → a < c.range.to → HasRow bases fde a (SaysFacts c.facts)

-- A description, which isn't one of a signal's frame, contains the range; its row at the range's start says the facts, and so does
-- its row at each location inside the range at which its program begins a new one.
pub record SaysInStretches (bases : Bases) (fde : Fde) (c : Claim) : Type 0 where
  pub from : fde.start ≤ c.range.from
  pub to : c.range.to ≤ fde.start + fde.size
  pub unmarked : fde.cie.letters.signal ≡ false
  pub first : HasRow bases fde c.range.from (SaysFacts c.facts)
  pub later : AllByRecursion (SaysAtInside bases fde c) (locations_of bases fde)
