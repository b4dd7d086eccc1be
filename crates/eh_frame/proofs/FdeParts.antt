-- What a frame description entry is, field by field.
use Rattle.std.proofs.Common.{◌≡◌, ℕ, ◌+◌, ◌-◌, ◌^◌, ◌<◌, ◌≤◌, Option, Ok, Err, refl}
use Rattle.std.proofs.lemmas.Bool.{le-leb, lt-leb}
use Rattle.unwind_definitions.specs.declared.error.Error.{Error as Fault}
use Rattle.unwind_definitions.specs.declared.error.Error.TheVariants.{AddressOverflow}
use Rattle.unwind_definitions.specs.Input.{Input}
use Rattle.unwind_definitions.specs.Pointers.{Bases, Pointer, direct, value, format_of}
use Rattle.unwind_definitions.specs.Entries.{Cie, address_encoding, fde_body, fde_data}

module _ (bases : Bases) (cie : Cie) (offset : ℕ) (c : Input) (e : ℕ) (encoded : address_encoding cie ≡ e) where
  -- the start can't be read
  pub no_start : (f : Fault) → direct e bases c ≡ Err f → fde_body bases cie offset c ≡ Err f
  no_start f fault = rw (encoded, fault) refl

  module _ (start : ℕ) (after_start : Input) (read_start : direct e bases c ≡ Ok (start, after_start)) where
    -- the length can't be read
    pub no_len : (f : Fault) → value (format_of e) after_start ≡ Err f → fde_body bases cie offset c ≡ Err f
    no_len f fault = rw (encoded, read_start, fault) refl

    module _ (len : ℕ) (after_len : Input) (read_len : value (format_of e) after_start ≡ Ok (len, after_len)) where
      -- the addresses end after the last one
      pub overflows : 2 ^ 64 - 1 < start + len → fde_body bases cie offset c ≡ Err AddressOverflow
      overflows above = rw (encoded, read_start, read_len, lt-leb (start + len) (2 ^ 64 - 1) above) refl

      module _ (fits : start + len ≤ 2 ^ 64 - 1) where
        -- the augmentation's bytes can't be read
        pub no_data : (f : Fault) → fde_data bases cie start after_len ≡ Err f → fde_body bases cie offset c ≡ Err f
        no_data f fault = rw (encoded, read_start, read_len, le-leb (start + len) (2 ^ 64 - 1) fits, fault) refl

        -- all can be read
        pub whole_fde : (language : Option Pointer) (program : Input) → fde_data bases cie start after_len ≡ Ok (language, program) →
            fde_body bases cie offset c ≡ Ok (record { offset = offset; cie = cie; start = start; size = len; language = language; program = program })
        whole_fde language program found = rw (encoded, read_start, read_len, le-leb (start + len) (2 ^ 64 - 1) fits, found) refl
