-- The common information entry of what stands in a table stands there itself.
use Rattle.std.proofs.Common.{◌≡◌, ℕ, ◌+◌, ◌-◌, ◌^◌, Bool, true, false, cond, Option, Some, None, Result, Ok, Err, refl, ap, subst, ◌∙◌}
use Rattle.std.specs.Prelude.{IfOk, nat_lt, nat_le, ◌==◌}
use Rattle.std.specs.Int.{w8, w32}
use Rattle.unwind_definitions.specs.declared.error.Error.{Error as Fault}
use Rattle.unwind_definitions.specs.declared.error.Error.TheVariants.{NotCie, UnknownVersion, UnknownAugmentation, AddressOverflow}
use Rattle.unwind_definitions.specs.Faults.{◌>>=◌, unless}
use Rattle.unwind_definitions.specs.Input.{Input, skip, number, uleb, sleb, text}
use Rattle.unwind_definitions.specs.Augmentation.{is_version, is_augmentation}
use Rattle.unwind_definitions.specs.Pointers.{Bases, direct, value, format_of}
use Rattle.unwind_definitions.specs.Entries.{Cie, Entry, ACie, AFde, Found, address_encoding, sizes, return_column, augmentation_data, fde_data, body, cie_body, cie_in, cie_at, fde_body, entry_in, found_in, entry_at}
use Rattle.eh_frame.specs.Shared.{cie_of_entry, StandsIn}

-- what goes on to a value has one before it
before : {A B : Type 0} (r : Result A Fault) (f : A → Result B Fault) (y : B) → (r >>= f) ≡ Ok y → (x : A) × (r ≡ Ok x) × (f x ≡ Ok y)
before (Ok x) f y is = (x, refl, is)
before (Err e) f y is = absurd cc

-- what holds of each end holds after what is read first
through : {A B : Type 0} (P : B → Type 0) (r : Result A Fault) (f : A → Result B Fault) → ((x : A) → IfOk (f x) P) → IfOk (r >>= f) P
through P (Ok x) f holds = holds x
through P (Err e) f holds = tt

module _ (bases : Bases) (offset : ℕ) where
  abbrev IsAt : Cie → Type 0
  IsAt cie = cie.offset ≡ offset

  -- an entry that is read has the offset at which it is read
  body_offset : (c : Input) → IfOk (cie_body bases offset c) IsAt
  body_offset c =
      through IsAt (number w8 c) _ (λ version.
      through IsAt (unless (is_version version.0) UnknownVersion) _ (λ known.
      through IsAt (text version.1) _ (λ augmentation.
      through IsAt (unless (is_augmentation augmentation.0) UnknownAugmentation) _ (λ form.
      through IsAt (sizes version.0 augmentation.1) _ (λ size.
      through IsAt (uleb size.1) _ (λ code.
      through IsAt (sleb code.1) _ (λ data_factor.
      through IsAt (return_column version.0 data_factor.1) _ (λ ret.
      through IsAt (augmentation_data bases augmentation.0 ret.1) _ (λ found. refl)))))))))

  in_offset : (b : Option Input) (cie : Cie) → cie_in bases offset b ≡ Ok cie → cie.offset ≡ offset
  in_offset None cie is = absurd cc
  in_offset (Some b) cie is = let id = before (number w32 b) _ cie is in go (id.0.0 == 0) id.0.1 id.2
    where
      go : (t : Bool) (c : Input) → cond t (cie_body bases offset c) (Err NotCie) ≡ Ok cie → cie.offset ≡ offset
      go true c is = subst (λ r. IfOk r IsAt) is (body_offset c)
      go false c is = absurd cc

  -- a description that is read names the entry by which it is read
  body_cie : (cie : Cie) (c : Input) → IfOk (fde_body bases cie offset c) (λ fde. fde.cie ≡ cie)
  body_cie cie c =
      through (λ fde. fde.cie ≡ cie) (direct (address_encoding cie) bases c) _ (λ start.
      through (λ fde. fde.cie ≡ cie) (value (format_of (address_encoding cie)) start.1) _ (λ len.
      through (λ fde. fde.cie ≡ cie) (unless (nat_le (start.0 + len.0) (2 ^ 64 - 1)) AddressOverflow) _ (λ fits.
      through (λ fde. fde.cie ≡ cie) (fde_data bases cie start.0 len.1) (λ found. Ok (record { offset = offset; cie = cie; start = start.0; size = len.0; language = found.0; program = found.1 })) (λ found. refl))))

-- an entry that is found at an offset stands at its own
pub at_own : (bases : Bases) (table : Input) (offset : ℕ) (cie : Cie) → cie_at bases table offset ≡ Ok cie → StandsIn bases table cie
at_own bases table offset cie is =
    let b = before (body (skip offset table)) _ cie is in
    let same : cie.offset ≡ offset = in_offset bases offset b.0.0 cie b.2 in
    ap (cie_at bases table) same ∙ is

module _ (bases : Bases) (table : Input) (offset : ℕ) where
  pub in_stands : (b next : Input) (e : Entry) → body (skip offset table) ≡ Ok (Some b, next) → entry_in bases table offset b ≡ Ok e → StandsIn bases table (cie_of_entry e)
  in_stands b next e read is = let id = before (number w32 b) _ e is in go id.0.0 id.0.1 id.1 (id.0.0 == 0) refl id.2
    where
      whole : (id : ℕ) (c : Input) (cie : Cie) → number w32 b ≡ Ok (id, c) → (id == 0) ≡ true → cie_body bases offset c ≡ Ok cie → cie_at bases table offset ≡ Ok cie
      whole id c cie first zero is = rw (read, first, zero) is

      near : (id : ℕ) (c : Input) (t : Bool) → cond t (Err NotCie) (cie_at bases table (b.offset - id) >>= λ cie. fde_body bases cie offset c >>= λ fde. Ok (AFde fde)) ≡ Ok e → StandsIn bases table (cie_of_entry e)
      near id c true is = absurd cc
      near id c false is =
          let cie = before (cie_at bases table (b.offset - id)) _ e is in
          let fde = before (fde_body bases cie.0 offset c) _ e cie.2 in
          let same : AFde fde.0 ≡ e = cc in
          let named : fde.0.cie ≡ cie.0 = subst (λ r. IfOk r (λ fde. fde.cie ≡ cie.0)) fde.1 (body_cie bases offset cie.0 c) in
          rw (← same, named) (at_own bases table (b.offset - id) cie.0 cie.1)

      go : (id : ℕ) (c : Input) → number w32 b ≡ Ok (id, c) → (t : Bool) → (id == 0) ≡ t →
          cond t (cie_body bases offset c >>= λ cie. Ok (ACie cie))
          (cond (nat_lt b.offset id) (Err NotCie) (cie_at bases table (b.offset - id) >>= λ cie. fde_body bases cie offset c >>= λ fde. Ok (AFde fde))) ≡ Ok e →
          StandsIn bases table (cie_of_entry e)
      go id c first true zero is =
          let cie = before (cie_body bases offset c) _ e is in
          let same : ACie cie.0 ≡ e = cc in
          rw (← same) (at_own bases table offset cie.0 (whole id c cie.0 first zero cie.1))
      go id c first false other is = near id c (nat_lt b.offset id) is

  -- so that it needn't be read again for what follows
  pub shared_stands : (found : Found) → entry_at bases table offset ≡ Ok (Some found) → StandsIn bases table (cie_of_entry found.entry)
  unfolding entry_at
  shared_stands found is = let b = before (body (skip offset table)) _ (Some found) is in go b.0.0 b.0.1 b.1 b.2
    where
      go : (b : Option Input) (next : Input) → body (skip offset table) ≡ Ok (b, next) → found_in bases table offset b next.offset ≡ Ok (Some found) → StandsIn bases table (cie_of_entry found.entry)
      go None next read is = absurd cc
      go (Some b) next read is =
          let e = before (entry_in bases table offset b) _ (Some found) is in
          let made : Found = record { entry = e.0; next = next.offset } in
          let same : made ≡ found = cc in
          rw (← same) (in_stands b next e.0 read e.1)
