-- What a common information entry is, once its fields before the letters are read.
use Rattle.std.proofs.Common.{◌≡◌, ℕ, true, List, Ok, refl, ◌∙◌}
use Rattle.std.specs.Int.{w8}
use Rattle.unwind_definitions.specs.Faults.{◌>>=◌}
use Rattle.unwind_definitions.specs.Input.{Input, number, uleb, sleb, text}
use Rattle.unwind_definitions.specs.Augmentation.{is_version, is_augmentation}
use Rattle.unwind_definitions.specs.Pointers.{Bases}
use Rattle.unwind_definitions.specs.Entries.{Letters, sizes, return_column, cie_body, augmentation_data}

pub cie_after : (bases : Bases) (offset : ℕ) (c after_version after_text after_sizes after_code after_data after_column : Input) (version code data_factor column : ℕ) (letters : List ℕ) →
    is_version version ≡ true → is_augmentation letters ≡ true →
    number w8 c ≡ Ok (version, after_version) → text after_version ≡ Ok (letters, after_text) → sizes version after_text ≡ Ok (tt, after_sizes) →
    uleb after_sizes ≡ Ok (code, after_code) → sleb after_code ≡ Ok (data_factor, after_data) → return_column version after_data ≡ Ok (column, after_column) →
    cie_body bases offset c ≡ (augmentation_data bases letters after_column >>= λ found.
    Ok (record { offset = offset; version = version; code_factor = code; data_factor = data_factor; return_column = column; augmentation = letters; letters = found.0; program = found.1 }))
cie_after bases offset c c1 c2 c3 c4 c5 c6 version code data_factor column letters known form e1 e2 e3 e4 e5 e6 =
    rw (e1, known, e2, form, e3, e4, e5, e6) refl

-- the same where the letters are read too
pub cie_whole : (bases : Bases) (offset : ℕ) (c after_version after_text after_sizes after_code after_data after_column program : Input) (version code data_factor column : ℕ) (letters : List ℕ) (found : Letters) →
    is_version version ≡ true → is_augmentation letters ≡ true →
    number w8 c ≡ Ok (version, after_version) → text after_version ≡ Ok (letters, after_text) → sizes version after_text ≡ Ok (tt, after_sizes) →
    uleb after_sizes ≡ Ok (code, after_code) → sleb after_code ≡ Ok (data_factor, after_data) → return_column version after_data ≡ Ok (column, after_column) →
    augmentation_data bases letters after_column ≡ Ok (found, program) →
    cie_body bases offset c ≡ Ok (record { offset = offset; version = version; code_factor = code; data_factor = data_factor; return_column = column; augmentation = letters; letters = found; program = program })
cie_whole bases offset c c1 c2 c3 c4 c5 c6 c7 version code data_factor column letters found known form e1 e2 e3 e4 e5 e6 e7 =
    cie_after bases offset c c1 c2 c3 c4 c5 c6 version code data_factor column letters known form e1 e2 e3 e4 e5 e6 ∙ rw e7 refl
