-- What a search of a header table finds: the description that the last pair names which starts at or below an address.
use Rattle.std.specs.Prelude.{◌≡◌, ℕ, List, [], ◌∷◌, Option, Some, None, Ok, nat_le, if◌then◌else◌, MatchOption}
use Rattle.std.specs.Option.{option_or}
use Rattle.memory_image.specs.Image.{Span}
use Rattle.unwind_definitions.specs.Entries.{Fde, AFde, entry_at}
use Rattle.unwind_definitions.specs.Row.{covers_pc}
use Rattle.unwind_definitions.specs.Scan.{scan}
use Rattle.unwind_definitions.specs.LanguageTable.{input_at}
use Rattle.unwind_definitions.specs.Module.{Module, bases_of, pair_of}
use Rattle.unwind_laws.specs.Found.{nothing_found}

-- the last pair that starts at or below an address
abbrev pub boundary : List (ℕ × ℕ) → ℕ → Option (ℕ × ℕ)
boundary [] a = None
boundary (p ∷ ps) a = option_or (boundary ps a) (if nat_le p.0 a then Some p else None)

-- a pair names a description, which stands at its own offset
pub record Names (image : List Span) (m : Module) (frame : ℕ) (p : ℕ × ℕ) (fde : Fde) : Type 0 where
  pub pair : p ≡ pair_of frame fde
  pub next : ℕ
  pub placed : entry_at (bases_of m frame) (input_at image frame) fde.offset ≡ Ok (Some (record { entry = AFde fde; next = next }))

-- A scan answers the description that a boundary names, where it contains the address, and else that there is none.
pub record AnswersBy (image : List Span) (m : Module) (frame a : ℕ) (p : ℕ × ℕ) : Type 0 where
  pub fde : Fde
  pub names : Names image m frame p fde
  pub answer : scan (bases_of m frame) (input_at image frame) a ≡ (if covers_pc fde a then Ok fde else nothing_found)

abbrev pub BoundaryAnswers : List Span → Module → ℕ → List (ℕ × ℕ) → ℕ → Type 0
BoundaryAnswers image m frame pairs a = MatchOption (boundary pairs a) (scan (bases_of m frame) (input_at image frame) a ≡ nothing_found) (AnswersBy image m frame a)
