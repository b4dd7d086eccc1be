-- What the code's readers answer, in the words of the definitions.
use Rattle.std.specs.Prelude.{◌≡◌, ℕ, length, Result, Ok, Err, nat_lt, if◌then◌else◌}
use Rattle.unwind_definitions.specs.declared.error.Error.{Error as Fault}
use Rattle.unwind_definitions.specs.declared.error.Error.TheVariants.{UnexpectedEof}
use Rattle.unwind_definitions.specs.Input.{Input, Reads, skip}

-- From one place a reader gives a value, seen by a view, and the next place; or a fault and the same place.
abbrev pub Gives : {X Y : Type 0} → (X → Y) → Result X Fault → Input → Reads Y → Input → Type 0
Gives view (Ok x) old reads new = reads old ≡ Ok (view x, new)
Gives view (Err e) old reads new = (reads old ≡ Err e) × (new ≡ old)

-- the same, where the place after a fault is unspecified
abbrev pub GivesOr : {X Y : Type 0} → (X → Y) → Result X Fault → Result (Y × Input) Fault → Input → Type 0
GivesOr view (Ok x) read new = read ≡ Ok (view x, new)
GivesOr view (Err e) read new = read ≡ Err e

-- n bytes are there, and are passed
abbrev pub checked_skip : ℕ → Reads (Unit {0})
checked_skip n c = if nat_lt (length c.bytes) n then Err UnexpectedEof else Ok (tt, skip n c)

-- An answer is what a definition gives, seen by a view, or its fault.
abbrev pub Answers : {X Y : Type 0} → (X → Y) → Result X Fault → Result Y Fault → Type 0
Answers view (Ok x) given = given ≡ Ok (view x)
Answers view (Err e) given = given ≡ Err e
