-- An entry that is read at an offset has that offset.
use Rattle.std.proofs.Common.{◌≡◌, ℕ, ◌-◌, ◌+◌, ◌^◌, Bool, true, false, cond, Option, Some, None, Result, Ok, Err, refl, subst}
use Rattle.std.specs.Prelude.{IfOk, nat_lt, nat_le, ◌==◌}
use Rattle.std.specs.Int.{w8, w32}
use Rattle.unwind_definitions.specs.declared.error.Error.{Error as Fault}
use Rattle.unwind_definitions.specs.declared.error.Error.TheVariants.{NotCie, UnknownVersion, UnknownAugmentation, AddressOverflow}
use Rattle.unwind_definitions.specs.Faults.{◌>>=◌, unless}
use Rattle.unwind_definitions.specs.Input.{Input, skip, number, uleb, sleb, text}
use Rattle.unwind_definitions.specs.Augmentation.{is_version, is_augmentation}
use Rattle.unwind_definitions.specs.Pointers.{Bases, direct, value, format_of}
use Rattle.unwind_definitions.specs.Entries.{Cie, Fde, Entry, ACie, AFde, Found, address_encoding, sizes, return_column, augmentation_data, fde_data, body, cie_body, cie_at, fde_body, entry_in, found_in, entry_at}
use Rattle.unwind_definitions.specs.FrameTable.{offset_of}

-- what holds of each end holds after what is read first
through : {A B : Type 0} (P : B → Type 0) (r : Result A Fault) (f : A → Result B Fault) → ((x : A) → IfOk (f x) P) → IfOk (r >>= f) P
through P (Ok x) f holds = holds x
through P (Err e) f holds = tt

-- what holds of what is read first leads on
after : {A B : Type 0} (Q : A → Type 0) (P : B → Type 0) (r : Result A Fault) (f : A → Result B Fault) → IfOk r Q → ((x : A) → Q x → IfOk (f x) P) → IfOk (r >>= f) P
after Q P (Ok x) f first holds = holds x first
after Q P (Err e) f first holds = tt

module _ (bases : Bases) (table : Input) (offset : ℕ) where
  abbrev CieAt : Cie → Type 0
  CieAt cie = cie.offset ≡ offset

  abbrev FdeAt : Fde → Type 0
  FdeAt fde = fde.offset ≡ offset

  abbrev EntryAt : Entry → Type 0
  EntryAt e = offset_of e ≡ offset

  abbrev FoundAt : Option Found → Type 0
  FoundAt None = Unit {0}
  FoundAt (Some f) = offset_of f.entry ≡ offset

  cie_offset : (c : Input) → IfOk (cie_body bases offset c) CieAt
  cie_offset c =
      through CieAt (number w8 c) _ (λ version.
      through CieAt (unless (is_version version.0) UnknownVersion) _ (λ known.
      through CieAt (text version.1) _ (λ augmentation.
      through CieAt (unless (is_augmentation augmentation.0) UnknownAugmentation) _ (λ form.
      through CieAt (sizes version.0 augmentation.1) _ (λ size.
      through CieAt (uleb size.1) _ (λ code.
      through CieAt (sleb code.1) _ (λ data_factor.
      through CieAt (return_column version.0 data_factor.1) _ (λ ret.
      through CieAt (augmentation_data bases augmentation.0 ret.1) _ (λ found. refl)))))))))

  fde_offset : (cie : Cie) (c : Input) → IfOk (fde_body bases cie offset c) FdeAt
  fde_offset cie c =
      through FdeAt (direct (address_encoding cie) bases c) _ (λ start.
      through FdeAt (value (format_of (address_encoding cie)) start.1) _ (λ len.
      through FdeAt (unless (nat_le (start.0 + len.0) (2 ^ 64 - 1)) AddressOverflow) _ (λ fits.
      through FdeAt (fde_data bases cie start.0 len.1) _ (λ found. refl))))

  in_offset : (b : Input) → IfOk (entry_in bases table offset b) EntryAt
  in_offset b = through EntryAt (number w32 b) _ (λ id. kind id.0 id.1 (id.0 == 0))
    where
      far : (id : ℕ) (c : Input) (t : Bool) → IfOk (cond t (Err NotCie) (cie_at bases table (b.offset - id) >>= λ cie. fde_body bases cie offset c >>= λ fde. Ok (AFde fde))) EntryAt
      far id c true = tt
      far id c false = through EntryAt (cie_at bases table (b.offset - id)) _ (λ cie. after FdeAt EntryAt (fde_body bases cie offset c) _ (fde_offset cie c) (λ fde at. at))

      kind : (id : ℕ) (c : Input) (t : Bool) → IfOk (cond t (cie_body bases offset c >>= λ cie. Ok (ACie cie)) (cond (nat_lt b.offset id) (Err NotCie) (cie_at bases table (b.offset - id) >>= λ cie. fde_body bases cie offset c >>= λ fde. Ok (AFde fde)))) EntryAt
      kind id c true = after CieAt EntryAt (cie_body bases offset c) _ (cie_offset c) (λ cie at. at)
      kind id c false = far id c (nat_lt b.offset id)

  found_offset : (b : Option Input) (next : ℕ) → IfOk (found_in bases table offset b next) FoundAt
  found_offset None next = tt
  found_offset (Some b) next = after EntryAt FoundAt (entry_in bases table offset b) _ (in_offset b) (λ e at. at)

  at_offset : IfOk (entry_at bases table offset) FoundAt
  unfolding entry_at
  at_offset = through FoundAt (body (skip offset table)) _ (λ b. found_offset b.0 b.1.offset)

  pub own_offset : (e : Entry) (next : ℕ) → entry_at bases table offset ≡ Ok (Some (record { entry = e; next = next })) → offset_of e ≡ offset
  own_offset e next is = subst (λ (r : Result (Option Found) Fault). IfOk r FoundAt) is at_offset
