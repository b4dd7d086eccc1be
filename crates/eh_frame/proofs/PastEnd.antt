-- A pair past the end of its table's bytes is read as at their end.
use Rattle.std.proofs.Common.{◌≡◌, ℕ, ◌+◌, ◌-◌, ◌*◌, ◌^◌, ◌<◌, ◌≤◌, Bool, true, false, List, [], length, drop, Result, Ok, Err, refl, sym, ap, ◌∙◌, arith, inl, inr}
use Rattle.std.specs.Prelude.{min, ◌==◌, if◌then◌else◌}
use Rattle.std.proofs.lemmas.Bool.{le-ltb}
use Rattle.std.proofs.lemmas.Bool.Decides.{leb_tells}
use Rattle.std.proofs.lemmas.List.{drop_all}
use Rattle.unwind_definitions.specs.declared.error.Error.{Error as Fault}
use Rattle.unwind_definitions.specs.declared.error.Error.TheVariants.{UnexpectedEof, CannotParseOmitPointerEncoding, UnknownPointerEncoding}
use Rattle.unwind_definitions.specs.Faults.{◌>>=◌, unless}
use Rattle.unwind_definitions.specs.Input.{Input, Reads, address_of, skip}
use Rattle.unwind_definitions.specs.Pointers.{Bases, Pointer, is_known, format_of, application_of, value, base_of, pointer, direct_target, direct}
use Rattle.unwind_definitions.specs.Header.{PairTable, pair_from, pair_at}
use Rattle.encoded_pointers.specs.Readers.{checked_skip}

-- nothing is left at a place
abbrev none_at : ℕ → ℕ → Input
none_at base offset = record { base = base; offset = offset; bytes = [] }

abbrev short : {A : Type 0} → Result A Fault
short = Err UnexpectedEof

chosen : (b : Bool) (f g : Reads ℕ) (c : Input) → f c ≡ short → g c ≡ short → (if b then f else g) c ≡ short
chosen true f g c p q = p
chosen false f g c p q = q

no_value : (format base offset : ℕ) → value format (none_at base offset) ≡ short
no_value format base offset =
    chosen (format == 0) _ _ (none_at base offset) refl
    (chosen (format == 1) _ _ (none_at base offset) refl
    (chosen (format == 2) _ _ (none_at base offset) refl
    (chosen (format == 3) _ _ (none_at base offset) refl
    (chosen (format == 4) _ _ (none_at base offset) refl
    (chosen (format == 9) _ _ (none_at base offset) refl
    (chosen (format == 10) _ _ (none_at base offset) refl
    (chosen (format == 11) _ _ (none_at base offset) refl refl)))))))

abbrev ends : Result ℕ Fault → Result (Pointer × Input) Fault
ends base = base >>= λ b. short

-- what refuses a pointer of which no byte is there doesn't depend on its place
same_end : (bases : Bases) (a b application : ℕ) → ends (base_of bases a application) ≡ ends (base_of bases b application)
same_end bases a b application = go (application == 0) (application == 0x10) _
  where
    go : (first second : Bool) (later : Result ℕ Fault) → ends (if first then Ok 0 else (if second then Ok a else later)) ≡ ends (if first then Ok 0 else (if second then Ok b else later))
    go true second later = refl
    go false true later = refl
    go false false later = refl

abbrev refused : ℕ → Result (Pointer × Input) Fault → Result (Pointer × Input) Fault
refused e after = if e == 255 then Err CannotParseOmitPointerEncoding else (unless (is_known e) UnknownPointerEncoding >>= λ u. after)

no_pointer : (e base offset : ℕ) (bases : Bases) → pointer e bases (none_at base offset) ≡ refused e (ends (base_of bases (address_of (none_at base offset)) (application_of e)))
no_pointer e base offset bases = rw (no_value (format_of e) base offset) refl

abbrev placed : ℕ → Input → Result (ℕ × Input) Fault
placed x d = Ok (x, d)

abbrev direct_from : Pointer × Input → Result (ℕ × Input) Fault
direct_from p = direct_target p.0 >>= λ x. placed x p.1

abbrev both : ℕ → ℕ → Result (ℕ × ℕ) Fault
both x y = Ok (x, y)

abbrev pair_after : ℕ → Bases → ℕ × Input → Result (ℕ × ℕ) Fault
pair_after e bases start = direct e bases start.1 >>= λ place. both start.0 place.0

same_pair : (e base a b : ℕ) (bases : Bases) → pair_from e bases (none_at base a) ≡ pair_from e bases (none_at base b)
same_pair e base a b bases =
    let same : pointer e bases (none_at base a) ≡ pointer e bases (none_at base b) =
    no_pointer e base a bases ∙ ap (refused e) (same_end bases (address_of (none_at base a)) (address_of (none_at base b)) (application_of e)) ∙ sym (no_pointer e base b bases) in
    ap (λ (r : Result (Pointer × Input) Fault). (r >>= direct_from) >>= pair_after e bases) same

-- so many bytes that are there are passed
pub passed : (k : ℕ) (c d : Input) → k ≤ length c.bytes → checked_skip k c ≡ Ok (tt, d) → d ≡ skip k c
passed k c d le e =
    let h = rw (le-ltb (length c.bytes) k le) at e in
    let same : (tt, skip k c) ≡ (tt, d) = after_same _ _ h in
    sym (ap (λ (p : Unit {0} × Input). p.1) same)
  where
    after_same : (x y : Unit {0} × Input) → ◌≡◌ {A = Result (Unit {0} × Input) Fault} (Ok x) (Ok y) → x ≡ y
    after_same x y e = cc

pub pair_there : (t : PairTable) (i k : ℕ) → k ≡ min (min (i * (2 * t.width)) (2 ^ 64 - 1)) (length t.pairs.bytes) → length t.pairs.bytes < 2 ^ 64 → pair_from t.encoding t.bases (skip k t.pairs) ≡ pair_at t i
pair_there t i k is small = elim (leb_tells (i * (2 * t.width)) (length t.pairs.bytes)) [
  | inl p ↦ (
      let le = p.1 in
      let same : k ≡ i * (2 * t.width) = omega arith in
      ap (λ n. pair_from t.encoding t.bases (skip n t.pairs)) same
      )
  | inr p ↦ (
      let lt = p.1 in
      let none : drop k t.pairs.bytes ≡ [] = drop_all k t.pairs.bytes (omega arith) in
      let also : drop (i * (2 * t.width)) t.pairs.bytes ≡ [] = drop_all (i * (2 * t.width)) t.pairs.bytes (omega arith) in
      ap (λ (l : List ℕ). pair_from t.encoding t.bases (record { base = t.pairs.base; offset = t.pairs.offset + k; bytes = l })) none
      ∙ same_pair t.encoding t.pairs.base (t.pairs.offset + k) (t.pairs.offset + i * (2 * t.width)) t.bases
      ∙ sym (ap (λ (l : List ℕ). pair_from t.encoding t.bases (record { base = t.pairs.base; offset = t.pairs.offset + i * (2 * t.width); bytes = l })) also)
      )
]
