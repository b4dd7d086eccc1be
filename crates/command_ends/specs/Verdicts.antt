-- What a run is to answer and to write, and what was answered and written.
use Rattle.std.specs.Prelude.{◌≡◌, ℕ, ◌⊎◌, List, [], Option}
use Rattle.std.specs.Io.KnownBytes.{Appends}
use Rattle.command_ends.specs.declared.status.Status.{Status}
use Rattle.command_ends.specs.declared.status.Status.TheVariants.{Done, ReadFault, WriteFault, NotJson, BadSnapshot, Refused, Memory}
use Rattle.command_ends.specs.Ends.{WritesFront}

-- a status and the text that is written for it
pub record Verdict : Type 0 where
  pub status : Status
  pub text : List ℕ

abbrev pub verdict : Status → List ℕ → Verdict
verdict status text = record { status = status; text = text }

-- The verdict was reported: its status was answered and its text written. Running out of memory and a fault of the source write
-- nothing in its place, and a fault of the sink a front of its text.
abbrev pub Tells : Verdict → Status → Option (List ℕ) → Option (List ℕ) → Type 0
Tells due Memory before after = Appends before after []
Tells due ReadFault before after = Appends before after []
Tells due WriteFault before after = WritesFront before after due.text
Tells due status before after = (status ≡ due.status) × Appends before after due.text

-- the answer that is to be written is due, or there is none where memory runs out
abbrev pub IsReady : Verdict → Status → List ℕ → Type 0
IsReady due status text = ((status ≡ Memory) × (text ≡ [])) ⊎ ((status ≡ due.status) × (text ≡ due.text))

-- the same, where the source may fail too
abbrev pub IsReadyOrFailed : Verdict → Status → List ℕ → Type 0
IsReadyOrFailed due status text = ((status ≡ ReadFault) × (text ≡ [])) ⊎ IsReady due status text

-- these come only where the source was read to its end
abbrev pub ReadsWhole : Status → Type 0
ReadsWhole Done = Unit {0}
ReadsWhole NotJson = Unit {0}
ReadsWhole BadSnapshot = Unit {0}
ReadsWhole Refused = Unit {0}
ReadsWhole _ = ⊥

-- a status that each other one yields to
abbrev pub Yields : Status → Type 0
Yields ReadFault = Unit {0}
Yields WriteFault = Unit {0}
Yields Memory = Unit {0}
Yields _ = ⊥

-- the status comes only where this holds, and where this holds it comes or yields
abbrev pub ComesExactly : Status → Status → Type 0 → Type 0
ComesExactly answered status P = (answered ≡ status → P) × (P → (answered ≡ status) ⊎ Yields answered)
