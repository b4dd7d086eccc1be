-- Rows that descriptions share whose programs have the same bytes, by their distances from the start.
use Rattle.std.specs.Prelude.{◌≡◌, ℕ, ◌+◌, ◌^◌, ◌<◌, ◌≤◌, ◌⊎◌, Bool, true, false, List, length, map, slice_range, slice_index_or, slice_set, Option, Some, None, IfSome}
use Rattle.std.specs.List.{AllByRecursion}
use Rattle.unwind_definitions.specs.Input.{Input}
use Rattle.unwind_definitions.specs.Instructions.{Coding, Program, program}
use Rattle.frame_rows.specs.KeptRows.{Kept, AreKeptOf, kept_rule_count, kept_at_distance}
use Rattle.frame_rows.specs.declared.known_programs.KnownProgram.{KnownProgram}

-- These are kept, from any start, of a description whose program has these bytes, read by these factors, and whose range holds the program's last location.
pub record Serves (common : Program) (code units : ℕ) (bytes : List ℕ) (reach count : ℕ) (by : List Kept) : Type 0 where
  pub kept : (coding : Coding) (own : Input) → coding.code_factor ≡ code → coding.data_factor ≡ units → own.bytes ≡ bytes → (start end : ℕ) → start + reach < end → end ≤ 2 ^ 64 → AreKeptOf start end common (program coding own) (map (kept_at_distance start) by)
  pub counted : (coding : Coding) (own : Input) → coding.code_factor ≡ code → coding.data_factor ≡ units → own.bytes ≡ bytes → (start end : ℕ) → start + reach < end → end ≤ 2 ^ 64 → kept_rule_count start end common (program coding own) ≡ count

-- rows of a table are those that a program made, and serve others
pub record IsKnown (common : Program) (rows : List Kept) (known : KnownProgram) : Type 0 where
  pub ordered : known.rows.first ≤ known.rows.end
  pub within : known.rows.end ≤ length rows
  pub serves : Serves common known.code_factor known.data_factor known.bytes.now known.reach known.rule_count (slice_range rows known.rows.first known.rows.end)

abbrev pub IsKnownSlot : Program → List Kept → Option KnownProgram → Type 0
IsKnownSlot common rows slot = IfSome slot (IsKnown common rows)

abbrev pub AreKnown : Program → List Kept → List (Option KnownProgram) → Type 0
AreKnown common rows known = AllByRecursion (IsKnownSlot common rows) known

-- no program is known
abbrev pub IsBlank : Option KnownProgram → Type 0
IsBlank slot = slot ≡ None

abbrev pub AreBlank : List (Option KnownProgram) → Type 0
AreBlank slots = AllByRecursion IsBlank slots

-- all stay known, or none
abbrev pub StayOrGo : List (Option KnownProgram) → List (Option KnownProgram) → Type 0
StayOrGo old new = (new ≡ old) ⊎ AreBlank new

-- One more is known, beside those before or alone. Where memory runs out it may not be.
pub record Notes (old : List (Option KnownProgram)) (known : KnownProgram) (new : List (Option KnownProgram)) : Type 0 where
  pub beside : List (Option KnownProgram)
  pub stays : StayOrGo old beside
  pub index : ℕ
  pub noted : (new ≡ beside) ⊎ (new ≡ slice_set beside index (Some known))

-- the same, unless a location was set
abbrev pub NotesUnless : Bool → List (Option KnownProgram) → KnownProgram → List (Option KnownProgram) → Type 0
NotesUnless true old known new = new ≡ old
NotesUnless false old known new = Notes old known new

-- a program that is known has these bytes, is read by the same factors, and its last location lies within so many bytes
pub record Finds (slots : List (Option KnownProgram)) (bytes : List ℕ) (coding : Coding) (size : ℕ) (known : KnownProgram) : Type 0 where
  pub index : ℕ
  pub within : index < length slots
  pub there : slice_index_or slots index None ≡ Some known
  pub bytes_same : known.bytes.now ≡ bytes
  pub code : known.code_factor ≡ coding.code_factor
  pub units : known.data_factor ≡ coding.data_factor
  pub inside : known.reach < size
