-- What is due where there is no snapshot, and what an answer keeps to.
use Rattle.std.specs.Prelude.{◌≡◌, ◌≢◌, ◌⊎◌, ◌<◌, ℕ, ◌+◌, ◌^◌, List, [], ◌++◌, length, Option, codes, nat_lt, if◌then◌else◌}
use Rattle.std.specs.Io.KnownBytes.{Appends, IsAtEnd}
use Rattle.stack_report.specs.Report.{line}
use Rattle.stack_snapshot.specs.declared.errors.Field.{Field}
use Rattle.stack_snapshot.specs.declared.errors.SnapshotError.{SnapshotError}
use Rattle.stack_snapshot.specs.declared.errors.SnapshotError.TheVariants as faults
use Rattle.stack_snapshot.specs.Names.{field_name}
use Rattle.command_ends.specs.declared.status.Status.{Status}
use Rattle.command_ends.specs.declared.status.Status.TheVariants.{Usage, ReadFault, WriteFault, TooLong, NotJson, BadSnapshot, Memory}
use Rattle.command_ends.specs.Ends.{ConsumesAtMost}
use Rattle.command_ends.specs.Verdicts.{Verdict, verdict, IsReady, ReadsWhole}

-- ---- what is due

-- which field of a snapshot is faulty
abbrev pub bad_line : Field → List ℕ
bad_line field = line (codes "bad snapshot: " ++ field_name field)

-- why bytes are no snapshot; out of memory is silent
abbrev pub fault_due : SnapshotError → Verdict
fault_due (faults.Bad field) = verdict BadSnapshot (bad_line field)
fault_due faults.NotJson = verdict NotJson (line (codes "not json"))
fault_due faults.NoMemory = verdict Memory []

abbrev pub too_long : Verdict
too_long = verdict TooLong (line (codes "too long"))

-- at most 67,108,864 bytes are read as a snapshot
abbrev pub within_limit : List ℕ → Verdict → Verdict
within_limit bytes due = if nat_lt (2 ^ 26) (length bytes) then too_long else due

-- ---- what answers keep to

-- An answer to bytes that were read is what is due of them, and nothing without memory.
abbrev pub AnswersBytes : Verdict → Status → List ℕ → Type 0
AnswersBytes due status text = IsReady due status text × (status ≢ Usage) × (status ≢ ReadFault) × (status ≢ WriteFault) × (status ≡ Memory → text ≡ [])

-- An answer is without text where memory ran out or a read failed, and a fault is answered only where one rose. Where a source is
-- asked for, it is read to its end if the status says so, and never further than one byte past the limit.
abbrev pub LeavesSource : Type 0 → Status → List ℕ → Type 0 → Option (List ℕ) → Option (List ℕ) → Type 0
LeavesSource asked status text rose left later =
    ((status ≡ Memory) ⊎ (status ≡ ReadFault) → text ≡ []) × (status ≡ ReadFault → rose) × (asked → ReadsWhole status → IsAtEnd later) × ConsumesAtMost left later (2 ^ 26 + 1)

-- A run writes nothing where memory ran out or a read failed, and a fault is answered only where one rose at that end. Where a source
-- is asked for, it is read to its end if the status says so, and never further than one byte past the limit.
abbrev pub KeepsToEnds : Type 0 → Status → Type 0 → Type 0 → Option (List ℕ) → Option (List ℕ) → Option (List ℕ) → Option (List ℕ) → Type 0
KeepsToEnds asked status read_rose write_rose left later before after =
    ((status ≡ Memory) ⊎ (status ≡ ReadFault) → Appends before after []) × (status ≡ ReadFault → read_rose) × (status ≡ WriteFault → write_rose)
    × (asked → ReadsWhole status → IsAtEnd later) × ConsumesAtMost left later (2 ^ 26 + 1)

-- why no bytes were had of a source that had these
abbrev pub IsUnread : List ℕ → Status → List ℕ → Type 0
IsUnread left status text =
    ((status ≡ ReadFault) × (text ≡ [])) ⊎ (((status ≡ Memory) × (text ≡ [])) ⊎ ((2 ^ 26 < length left) × (status ≡ too_long.status) × (text ≡ too_long.text)))
