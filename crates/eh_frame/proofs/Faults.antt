-- Reading an entry never says that no description contains an address.
use Rattle.std.proofs.Common.{◌≡◌, ℕ, zero, suc, ◌+◌, ◌-◌, ◌*◌, ◌%◌, ◌^◌, Bool, true, false, List, [], ◌∷◌, length, position, Option, Some, None, Result, Ok, Err, ap}
use Rattle.std.specs.Prelude.{if◌then◌else◌, ◌==◌, nat_lt, nat_le}
use Rattle.std.specs.Int.{Width, w8, w16, w32, w64}
use Rattle.unwind_definitions.specs.declared.error.Error.{Error as Fault}
use Rattle.unwind_definitions.specs.declared.error.Error.TheVariants.{UnexpectedEof, AddressOverflow, NotCie, UnsupportedPointerEncoding, CannotParseOmitPointerEncoding, UnknownPointerEncoding, BadSignedLeb128, NoUnwindInfoForAddress}
use Rattle.unwind_definitions.specs.Faults.{◌>>=◌, unless}
use Rattle.unwind_definitions.specs.Input.{Input, Reads, address_of, skip, split, number, uleb_from, uleb, sleb_from, sleb, text_before, text}
use Rattle.unwind_definitions.specs.Pointers.{Bases, Pointer, Direct, Indirect, is_known, is_indirect, format_of, application_of, encoding, signed_number, value, base_if_known, base_of, pointer, direct_target, direct}
use Rattle.unwind_definitions.specs.Instructions.{column}
use Rattle.unwind_definitions.specs.Entries.{Letters, Cie, Entry, ACie, AFde, Found, address_encoding, letter, letters_from, no_letters, augmentation_data, sizes, return_column, cie_body, language_pointer, fde_data, fde_body, body, length_after, cie_in, cie_at, entry_in, found_in, entry_at}
use Rattle.unwind_definitions.specs.Header.{PairTable, pair_from, pair_at}
use Rattle.unwind_definitions.specs.HeaderSearch.{fde_in, fde_at_address}

abbrev Other : {A : Type 0} → Result A Fault → Type 0
Other r = r ≡ Err NoUnwindInfoForAddress → ⊥

other_ok : {A : Type 0} (x : A) → Other (Ok x)
other_ok x h = absurd cc

other_err : {A : Type 0} (e : Fault) → (e ≡ NoUnwindInfoForAddress → ⊥) → Other {A = A} (Err e)
other_err e ne h = let same : e ≡ NoUnwindInfoForAddress = cc in ne same

abbrev refused : {A : Type 0} → Fault → Result A Fault
refused e = Err e

other_then : {A B : Type 0} (r : Result A Fault) (f : A → Result B Fault) → Other r → ((x : A) → Other (f x)) → Other (r >>= f)
other_then (Ok x) f first second = second x
other_then (Err e) f first second = λ h. let same : e ≡ NoUnwindInfoForAddress = cc in first (ap refused same)

other_if : {A : Type 0} (b : Bool) (x y : Result A Fault) → Other x → Other y → Other (if b then x else y)
other_if true x y a b = a
other_if false x y a b = b

other_unless : (b : Bool) (e : Fault) → (e ≡ NoUnwindInfoForAddress → ⊥) → Other (unless b e)
other_unless true e ne = other_ok tt
other_unless false e ne = other_err e ne

other_number : (w : Width) (c : Input) → Other (number w c)
other_number w c = other_if _ _ _ (other_err _ (λ h. cc)) (other_ok _)

other_choice : {A : Type 0} (b : Bool) (f g : Reads A) (c : Input) → Other (f c) → Other (g c) → Other ((if b then f else g) c)
other_choice true f g c a b = a
other_choice false f g c a b = b

other_split : (n : ℕ) (c : Input) → Other (split n c)
other_split n c = other_if _ _ _ (other_err _ (λ h. cc)) (other_ok _)

other_uleb_from : (left : ℕ) (c : Input) → Other (uleb_from left c)
other_uleb_from zero c = other_err _ (λ h. cc)
other_uleb_from (suc zero) c = other_then (number w8 c) _ (other_number w8 c) (λ b. other_if _ _ _ (other_ok _) (other_err _ (λ h. cc)))
other_uleb_from (suc (suc left)) c =
    other_then (number w8 c) _ (other_number w8 c) (λ b. other_if _ _ _ (other_ok _) (other_then (uleb_from (suc left) b.1) _ (other_uleb_from (suc left) b.1) (λ high. other_ok _)))

other_uleb : (c : Input) → Other (uleb c)
other_uleb c = other_uleb_from 10 c

other_sleb_from : (left : ℕ) (c : Input) → Other (sleb_from left c)
other_sleb_from zero c = other_err _ (λ h. cc)
other_sleb_from (suc zero) c = other_then (number w8 c) _ (other_number w8 c) (λ b. other_if (b.0 == 0) _ _ (other_ok b) (other_if (b.0 == 127) _ _ (other_ok (2 ^ 64 - 1, b.1)) (other_err BadSignedLeb128 (λ h. cc))))
other_sleb_from (suc (suc left)) c =
    other_then (number w8 c) _ (other_number w8 c) (λ b. other_if _ _ _ (other_ok _) (other_then (sleb_from (suc left) b.1) _ (other_sleb_from (suc left) b.1) (λ high. other_ok _)))

other_sleb : (c : Input) → Other (sleb c)
other_sleb c = other_sleb_from 10 c

other_text_before : (o : Option ℕ) (c : Input) → Other (text_before o c)
other_text_before None c = other_err _ (λ h. cc)
other_text_before (Some n) c = other_ok _

other_text : (c : Input) → Other (text c)
other_text c = other_text_before (position (λ b. b == 0) c.bytes) c

-- ---- pointers
other_encoding : (c : Input) → Other (encoding c)
other_encoding c = other_then (number w8 c) _ (other_number w8 c) (λ e. other_if _ _ _ (other_ok _) (other_err _ (λ h. cc)))

other_signed : (w : Width) (bits : ℕ) (c : Input) → Other (signed_number w bits c)
other_signed w bits c = other_then (number w c) _ (other_number w c) (λ n. other_ok _)

other_value : (format : ℕ) (c : Input) → Other (value format c)
other_value format c =
    other_choice (format == 0) _ _ c (other_number w64 c)
    (other_choice (format == 1) _ _ c (other_uleb c)
    (other_choice (format == 2) _ _ c (other_number w16 c)
    (other_choice (format == 3) _ _ c (other_number w32 c)
    (other_choice (format == 4) _ _ c (other_number w64 c)
    (other_choice (format == 9) _ _ c (other_sleb c)
    (other_choice (format == 10) _ _ c (other_signed w16 16 c)
    (other_choice (format == 11) _ _ c (other_signed w32 32 c)
    (other_number w64 c))))))))

other_known : (o : Option ℕ) → Other (base_if_known o)
other_known None = other_err _ (λ h. cc)
other_known (Some base) = other_ok _

other_base : (bases : Bases) (at application : ℕ) → Other (base_of bases at application)
other_base bases at application =
    other_if (application == 0) _ _ (other_ok 0) (other_if (application == 0x10) _ _ (other_ok at) (other_if (application == 0x20) _ _ (other_known bases.text)
    (other_if (application == 0x30) _ _ (other_known bases.data_base) (other_if (application == 0x40) _ _ (other_known bases.func) (other_err UnsupportedPointerEncoding (λ h. cc))))))

other_pointer : (e : ℕ) (bases : Bases) (c : Input) → Other (pointer e bases c)
other_pointer e bases c =
    other_if (e == 255) _ _ (other_err CannotParseOmitPointerEncoding (λ h. cc)) (other_then _ _ (other_unless (is_known e) UnknownPointerEncoding (λ h. cc)) (λ u.
    other_then _ _ (other_base bases (address_of c) (application_of e)) (λ base. other_then _ _ (other_value (format_of e) c) (λ n.
    other_ok ((if is_indirect e then Indirect ((base + n.0) % 2 ^ 64) else Direct ((base + n.0) % 2 ^ 64)), n.1)))))

other_direct_target : (p : Pointer) → Other (direct_target p)
other_direct_target (Direct a) = other_ok _
other_direct_target (Indirect a) = other_err _ (λ h. cc)

other_direct : (e : ℕ) (bases : Bases) (c : Input) → Other (direct e bases c)
other_direct e bases c = other_then (pointer e bases c) _ (other_pointer e bases c) (λ p. other_then _ _ (other_direct_target p.0) (λ a. other_ok _))

-- ---- entries
other_letter : (bases : Bases) (l : ℕ) (before : Letters) (c : Input) → Other (letter bases l before c)
other_letter bases l before c =
    other_choice (l == 0x4c) _ _ c (other_then _ _ (other_encoding c) (λ e. other_ok _))
    (other_choice (l == 0x50) _ _ c (other_then _ _ (other_encoding c) (λ e. other_then _ _ (other_pointer e.0 bases e.1) (λ p. other_ok _)))
    (other_choice (l == 0x52) _ _ c (other_then _ _ (other_encoding c) (λ e. other_ok _))
    (other_choice (l == 0x53) _ _ c (other_ok _) (other_err _ (λ h. cc)))))

other_letters : (bases : Bases) (ls : List ℕ) (before : Letters) (c : Input) → Other (letters_from bases ls before c)
other_letters bases [] before c = other_ok _
other_letters bases (l ∷ ls) before c = other_then _ _ (other_letter bases l before c) (λ r. other_letters bases ls r.0 r.1)

other_data : (bases : Bases) (ls : List ℕ) (c : Input) → Other (augmentation_data bases ls c)
other_data bases [] c = other_ok _
other_data bases (z ∷ ls) c = other_then _ _ (other_uleb c) (λ n. other_then _ _ (other_split n.0 n.1) (λ block. other_then _ _ (other_letters bases ls no_letters block.0) (λ found. other_ok _)))

other_sizes : (version : ℕ) (c : Input) → Other (sizes version c)
other_sizes version c =
    other_if _ _ _ (other_then _ _ (other_number w8 c) (λ a. other_then _ _ (other_unless _ _ (λ h. cc)) (λ u. other_then _ _ (other_number w8 a.1) (λ s. other_then _ _ (other_unless _ _ (λ h. cc)) (λ v. other_ok _)))))
    (other_ok _)

other_column : (c : Input) → Other (column c)
other_column c = other_then _ _ (other_uleb c) (λ r. other_if _ _ _ (other_ok _) (other_err _ (λ h. cc)))

other_return_column : (version : ℕ) (c : Input) → Other (return_column version c)
other_return_column version c = other_if _ _ _ (other_number w8 c) (other_column c)

other_language : (bases : Bases) (start : ℕ) (o : Option ℕ) (c : Input) → Other (language_pointer bases start o c)
other_language bases start None c = other_ok _
other_language bases start (Some e) c = other_if _ _ _ (other_ok _) (other_then _ _ (other_pointer e (record bases { func = Some start }) c) (λ p. other_ok (Some p.0)))

other_fde_data : (bases : Bases) (cie : Cie) (start : ℕ) (c : Input) → Other (fde_data bases cie start c)
other_fde_data bases cie start c =
    other_if _ _ _ (other_ok _) (other_then _ _ (other_uleb c) (λ n. other_then _ _ (other_split n.0 n.1) (λ block. other_then _ _ (other_language bases start cie.letters.language block.0) (λ p. other_ok _))))

module _ (bases : Bases) where
  other_cie_body : (offset : ℕ) (c : Input) → Other (cie_body bases offset c)
  other_cie_body offset c =
      other_then _ _ (other_number w8 c) (λ version. other_then _ _ (other_unless _ _ (λ h. cc)) (λ u. other_then _ _ (other_text version.1) (λ augmentation. other_then _ _ (other_unless _ _ (λ h. cc)) (λ v.
      other_then _ _ (other_sizes version.0 augmentation.1) (λ size. other_then _ _ (other_uleb size.1) (λ code. other_then _ _ (other_sleb code.1) (λ data_factor.
      other_then _ _ (other_return_column version.0 data_factor.1) (λ ret. other_then _ _ (other_data bases augmentation.0 ret.1) (λ found. other_ok _)))))))))

  other_fde_body : (cie : Cie) (offset : ℕ) (c : Input) → Other (fde_body bases cie offset c)
  other_fde_body cie offset c =
      other_then _ _ (other_direct (address_encoding cie) bases c) (λ start.
      other_then _ _ (other_value (format_of (address_encoding cie)) start.1) (λ len. other_then _ _ (other_unless (nat_le (start.0 + len.0) (2 ^ 64 - 1)) AddressOverflow (λ h. cc)) (λ v.
      other_then _ _ (other_fde_data bases cie start.0 len.1) (λ found. other_ok (record { offset = offset; cie = cie; start = start.0; size = len.0; language = found.0; program = found.1 })))))

  other_length : (n : ℕ × Input) → Other (length_after n)
  other_length n = other_if _ _ _ (other_number w64 n.1) (other_ok _)

  other_body : (c : Input) → Other (body c)
  other_body c =
      other_if _ _ _ (other_ok _) (other_then _ _ (other_number w32 c) (λ n. other_if _ _ _ (other_ok _) (other_then _ _ (other_length n) (λ len. other_then _ _ (other_split len.0 len.1) (λ b. other_ok _)))))

  other_cie_in : (offset : ℕ) (o : Option Input) → Other (cie_in bases offset o)
  other_cie_in offset None = other_err _ (λ h. cc)
  other_cie_in offset (Some b) = other_then _ _ (other_number w32 b) (λ id. other_if _ _ _ (other_cie_body offset id.1) (other_err _ (λ h. cc)))

  other_cie_at : (table : Input) (offset : ℕ) → Other (cie_at bases table offset)
  other_cie_at table offset = other_then _ _ (other_body (skip offset table)) (λ b. other_cie_in offset b.0)

  other_entry_in : (table : Input) (offset : ℕ) (b : Input) → Other (entry_in bases table offset b)
  other_entry_in table offset b =
      other_then _ _ (other_number w32 b) (λ id. other_if (id.0 == 0) _ _ (other_then _ _ (other_cie_body offset id.1) (λ cie. other_ok (ACie cie)))
      (other_if (nat_lt b.offset id.0) _ _ (other_err NotCie (λ h. cc))
      (other_then _ _ (other_cie_at table (b.offset - id.0)) (λ cie. other_then _ _ (other_fde_body cie offset id.1) (λ fde. other_ok (AFde fde))))))

  other_found_in : (table : Input) (offset : ℕ) (o : Option Input) (next : ℕ) → Other (found_in bases table offset o next)
  other_found_in table offset None next = other_ok _
  other_found_in table offset (Some b) next = other_then _ _ (other_entry_in table offset b) (λ e. other_ok _)

  pub other_entry_at : (table : Input) (offset : ℕ) → entry_at bases table offset ≡ Err NoUnwindInfoForAddress → ⊥
  unfolding entry_at
  other_entry_at table offset = other_then _ _ (other_body (skip offset table)) (λ b. other_found_in table offset b.0 b.1.offset)

-- ---- headers
other_pair_from : (e : ℕ) (bases : Bases) (c : Input) → Other (pair_from e bases c)
other_pair_from e bases c = other_then _ _ (other_direct e bases c) (λ start. other_then _ _ (other_direct e bases start.1) (λ place. other_ok (start.0, place.0)))

-- nor does reading a pair of a header's table
pub other_pair_at : (t : PairTable) (i : ℕ) → pair_at t i ≡ Err NoUnwindInfoForAddress → ⊥
other_pair_at t i = other_pair_from t.encoding t.bases (skip (i * (2 * t.width)) t.pairs)

other_fde_in : (o : Option Found) → Other (fde_in o)
other_fde_in None = other_err _ (λ h. cc)
other_fde_in (Some found) = go found.entry
  where
    go : (e : Entry) → Other (fde_in (Some (record { entry = e; next = found.next })))
    go (ACie cie) = other_err _ (λ h. cc)
    go (AFde fde) = other_ok fde

-- nor does reading a description
pub other_fde_at_address : (bases : Bases) (table : Input) (a : ℕ) → fde_at_address bases table a ≡ Err NoUnwindInfoForAddress → ⊥
other_fde_at_address bases table a =
    other_if (nat_lt a table.base) _ _ (other_err UnexpectedEof (λ h. cc)) (other_if (nat_lt (length table.bytes) (a - table.base)) _ _ (other_err UnexpectedEof (λ h. cc))
    (other_then _ _ (other_entry_at bases table (a - table.base)) other_fde_in))
