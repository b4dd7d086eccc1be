-- What an answer and a run keep to, as a source of any length is read.
use Rattle.std.specs.Prelude.{◌≡◌, ◌≢◌, ◌⊎◌, ℕ, List, [], Option}
use Rattle.std.specs.Io.KnownBytes.{Appends, Consumes, IsAtEnd}
use Rattle.perf_data.specs.declared.stream.StreamError.{StreamError}
use Rattle.perf_data.specs.declared.stream.StreamError.TheVariants.{NoMemory, Fault, Unread}
use Rattle.command_ends.specs.declared.status.Status.{Status}
use Rattle.command_ends.specs.declared.status.Status.TheVariants.{Usage, ReadFault, WriteFault, TooLong, Refused, Memory}
use Rattle.command_ends.specs.Verdicts.{IsReady, ReadsWhole, verdict}
use Rattle.profile.specs.Lines.{refused_line}

-- some of the bytes of the source were taken
abbrev pub WasRead : Option (List ℕ) → Option (List ℕ) → Type 0
WasRead left later = (taken : List ℕ) × Consumes left later taken

-- An answer is without text where memory ran out or a read failed, and a fault is answered only where one rose. Where a source is
-- asked for, it is read to its end if the status says so.
abbrev pub LeavesSource : Type 0 → Status → List ℕ → Type 0 → Option (List ℕ) → Option (List ℕ) → Type 0
LeavesSource asked status text rose left later =
    ((status ≡ Memory) ⊎ (status ≡ ReadFault) → text ≡ []) × (status ≡ ReadFault → rose) × (asked → ReadsWhole status → IsAtEnd later) × WasRead left later

-- A run writes nothing where memory ran out or a read failed, and a fault is answered only where one rose at that end. Where a source
-- is asked for, it is read to its end if the status says so.
abbrev pub KeepsToEnds : Type 0 → Status → Type 0 → Type 0 → Option (List ℕ) → Option (List ℕ) → Option (List ℕ) → Option (List ℕ) → Type 0
KeepsToEnds asked status read_rose write_rose left later before after =
    ((status ≡ Memory) ⊎ (status ≡ ReadFault) → Appends before after []) × (status ≡ ReadFault → read_rose) × (status ≡ WriteFault → write_rose)
    × (asked → ReadsWhole status → IsAtEnd later) × WasRead left later

-- only the words are answered otherwise, and only writing fails otherwise
abbrev pub IsOfSource : Status → Type 0
IsOfSource status = (status ≢ Usage) × (status ≢ WriteFault) × (status ≢ TooLong)

-- what is answered where a file isn't read
abbrev pub IsFailure : StreamError → Status → List ℕ → Type 0
IsFailure NoMemory status text = (status ≡ Memory) × (text ≡ [])
IsFailure Fault status text = (status ≡ ReadFault) × (text ≡ [])
IsFailure (Unread e) status text = IsReady (verdict Refused (refused_line e)) status text
