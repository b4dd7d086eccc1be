-- A reading takes bytes from the front: fewer are left, or no more than before.
use Rattle.std.proofs.Common.{◌≡◌, ℕ, zero, suc, ◌+◌, ◌-◌, ◌*◌, ◌%◌, ◌^◌, ◌<◌, ◌≤◌, Bool, true, false, cond, List, length, take, Result, Ok, Err, refl, subst, arith}
use Rattle.std.specs.Prelude.{nat_lt, nat_le, ◌==◌}
use Rattle.std.specs.Int.{Width, w8, w16, w32, w64, byte_len, from_le_bytes}
use Rattle.std.proofs.lemmas.Bool.{ltb-false}
use Rattle.std.proofs.lemmas.List.{length-drop}
use Rattle.memory_image.specs.Image.{Span}
use Rattle.unwind_definitions.specs.declared.error.Error.{Error as Fault}
use Rattle.unwind_definitions.specs.declared.error.Error.TheVariants.{UnexpectedEof, UnknownPointerEncoding, CannotParseOmitPointerEncoding, BadUnsignedLeb128, BadSignedLeb128}
use Rattle.unwind_definitions.specs.Faults.{◌>>=◌, unless}
use Rattle.unwind_definitions.specs.Input.{Input, Reads, address_of, skip, number, signed_word, uleb_from, uleb, sleb_from, sleb}
use Rattle.unwind_definitions.specs.Pointers.{Bases, Pointer, Direct, Indirect, is_known, is_indirect, format_of, application_of, base_of, signed_number, value, pointer}
use Rattle.unwind_definitions.specs.Caller.{StepFault}
use Rattle.unwind_definitions.specs.LanguageSearch as tables

-- fewer bytes than so many are left
abbrev pub IsBelow : {A E : Type 0} → Result (A × Input) E → ℕ → Type 0
IsBelow (Ok r) n = length r.1.bytes < n
IsBelow (Err e) n = Unit {0}

-- one reading after another
then_below : {A B E : Type 0} (r : Result (A × Input) E) (f : A × Input → Result (B × Input) E) (m n : ℕ) → IsBelow r m → ((x : A × Input) → length x.1.bytes < m → IsBelow (f x) n) → IsBelow (◌>>=◌ r f) n
then_below (Ok x) f m n below each = each x below
then_below (Err e) f m n below each = tt

read_below : {A : Type 0} (r : Result (A × Input) Fault) (n : ℕ) → IsBelow r n → IsBelow (tables.table_reading r) n
read_below (Ok x) n below = below
read_below (Err e) n below = tt

if_below : {A E : Type 0} (b : Bool) (r s : Result (A × Input) E) (n : ℕ) → IsBelow r n → IsBelow s n → IsBelow (cond b r s) n
if_below true r s n a b = a
if_below false r s n a b = b

either_below : (b : Bool) (f g : Reads ℕ) (c : Input) (n : ℕ) → IsBelow (f c) n → IsBelow (g c) n → IsBelow (cond b f g c) n
either_below true f g c n a b = a
either_below false f g c n a b = b

more_below : {A E : Type 0} (r : Result (A × Input) E) (m n : ℕ) → m ≤ n → IsBelow r m → IsBelow r n
more_below (Ok r) m n le below = let lt = below in omega arith
more_below (Err e) m n le below = tt

left_after : (k : ℕ) (c : Input) → length (skip k c).bytes ≡ length c.bytes - k
left_after k c = length-drop k c.bytes

-- ---- numbers
abbrev numbered : Width → Input → Result (ℕ × Input) Fault
numbered w c = Ok (from_le_bytes w (take (byte_len w) c.bytes), skip (byte_len w) c)

abbrev eof : Result (ℕ × Input) Fault
eof = Err UnexpectedEof

number_below : (w : Width) (c : Input) → IsBelow (number w c) (suc (length c.bytes))
number_below w c = if_below (nat_lt (length c.bytes) (byte_len w)) eof (numbered w c) (suc (length c.bytes)) tt (let left = left_after (byte_len w) c in omega arith)

byte_below : (c : Input) → IsBelow (number w8 c) (length c.bytes)
byte_below c = go (nat_lt (length c.bytes) 1) refl
  where
    go : (b : Bool) → nat_lt (length c.bytes) 1 ≡ b → IsBelow (cond b eof (numbered w8 c)) (length c.bytes)
    go true is = tt
    go false is = let some = ltb-false (length c.bytes) 1 is in let left = left_after 1 c in omega arith

uleb_from_below : (most : ℕ) (c : Input) → IsBelow (uleb_from most c) (length c.bytes)
uleb_from_below zero c = tt
uleb_from_below (suc zero) c =
    then_below (number w8 c) (λ b. cond (nat_le b.0 1) (Ok b) (Err BadUnsignedLeb128)) (length c.bytes) (length c.bytes) (byte_below c)
    (λ b lt. if_below (nat_le b.0 1) (Ok b) (Err BadUnsignedLeb128) (length c.bytes) lt tt)
uleb_from_below (suc (suc most)) c =
    then_below (number w8 c) (λ b. cond (nat_lt b.0 128) (Ok b) (◌>>=◌ (uleb_from (suc most) b.1) (λ high. Ok (b.0 - 128 + 128 * high.0, high.1)))) (length c.bytes) (length c.bytes) (byte_below c)
    (λ b lt. if_below (nat_lt b.0 128) (Ok b) (◌>>=◌ (uleb_from (suc most) b.1) (λ high. Ok (b.0 - 128 + 128 * high.0, high.1))) (length c.bytes) lt
    (then_below (uleb_from (suc most) b.1) (λ high. Ok (b.0 - 128 + 128 * high.0, high.1)) (length b.1.bytes) (length c.bytes) (uleb_from_below (suc most) b.1) (λ high less. omega arith)))

pub uleb_below : (c : Input) → IsBelow (uleb c) (length c.bytes)
uleb_below c = uleb_from_below 10 c

sleb_from_below : (most : ℕ) (c : Input) → IsBelow (sleb_from most c) (length c.bytes)
sleb_from_below zero c = tt
sleb_from_below (suc zero) c =
    then_below (number w8 c) (λ b. cond (b.0 == 0) (Ok b) (cond (b.0 == 127) (Ok (2 ^ 64 - 1, b.1)) (Err BadSignedLeb128))) (length c.bytes) (length c.bytes) (byte_below c)
    (λ b lt. if_below (b.0 == 0) (Ok b) (cond (b.0 == 127) (Ok (2 ^ 64 - 1, b.1)) (Err BadSignedLeb128)) (length c.bytes) lt (if_below (b.0 == 127) (Ok (2 ^ 64 - 1, b.1)) (Err BadSignedLeb128) (length c.bytes) lt tt))
sleb_from_below (suc (suc most)) c =
    then_below (number w8 c) (λ b. cond (nat_lt b.0 128) (Ok (signed_word 7 b.0, b.1)) (◌>>=◌ (sleb_from (suc most) b.1) (λ high. Ok ((b.0 - 128 + 128 * high.0) % 2 ^ 64, high.1)))) (length c.bytes) (length c.bytes) (byte_below c)
    (λ b lt. if_below (nat_lt b.0 128) (Ok (signed_word 7 b.0, b.1)) (◌>>=◌ (sleb_from (suc most) b.1) (λ high. Ok ((b.0 - 128 + 128 * high.0) % 2 ^ 64, high.1))) (length c.bytes) lt
    (then_below (sleb_from (suc most) b.1) (λ high. Ok ((b.0 - 128 + 128 * high.0) % 2 ^ 64, high.1)) (length b.1.bytes) (length c.bytes) (sleb_from_below (suc most) b.1) (λ high less. omega arith)))

sleb_below : (c : Input) → IsBelow (sleb c) (length c.bytes)
sleb_below c = sleb_from_below 10 c

signed_below : (w : Width) (bits : ℕ) (c : Input) → IsBelow (signed_number w bits c) (suc (length c.bytes))
signed_below w bits c = then_below (number w c) (λ n. Ok (signed_word bits n.0, n.1)) (suc (length c.bytes)) (suc (length c.bytes)) (number_below w c) (λ n lt. lt)

-- ---- pointers
value_below : (format : ℕ) (c : Input) → IsBelow (value format c) (suc (length c.bytes))
value_below format c =
    let n : ℕ = suc (length c.bytes) in
    let word = number_below w64 c in
    either_below (format == 0) (number w64) _ c n word
    (either_below (format == 1) uleb _ c n (more_below (uleb c) (length c.bytes) n (omega arith) (uleb_below c))
    (either_below (format == 2) (number w16) _ c n (number_below w16 c)
    (either_below (format == 3) (number w32) _ c n (number_below w32 c)
    (either_below (format == 4) (number w64) _ c n word
    (either_below (format == 9) sleb _ c n (more_below (sleb c) (length c.bytes) n (omega arith) (sleb_below c))
    (either_below (format == 10) (signed_number w16 16) _ c n (signed_below w16 16 c)
    (either_below (format == 11) (signed_number w32 32) (number w64) c n (signed_below w32 32 c) word)))))))

abbrev pointed : ℕ → ℕ → ℕ × Input → Result (Pointer × Input) Fault
pointed e base n = Ok ((cond (is_indirect e) (Indirect ((base + n.0) % 2 ^ 64)) (Direct ((base + n.0) % 2 ^ 64))), n.1)

abbrev based : ℕ → Input → Result ℕ Fault → Result (Pointer × Input) Fault
based e c r = ◌>>=◌ r (λ base. ◌>>=◌ (value (format_of e) c) (pointed e base))

pointer_below : (e : ℕ) (bases : Bases) (c : Input) → IsBelow (pointer e bases c) (suc (length c.bytes))
pointer_below e bases c = go (e == 255) (is_known e) (base_of bases (address_of c) (application_of e))
  where
    go : (b d : Bool) (r : Result ℕ Fault) → IsBelow (cond b (Err CannotParseOmitPointerEncoding) (◌>>=◌ (unless d UnknownPointerEncoding) (λ known. based e c r))) (suc (length c.bytes))
    go true d r = tt
    go false false r = tt
    go false true (Err f) = tt
    go false true (Ok base) = then_below (value (format_of e) c) (pointed e base) (suc (length c.bytes)) (suc (length c.bytes)) (value_below (format_of e) c) (λ n lt. lt)

abbrev aimed : Result ℕ StepFault → Input → Result (ℕ × Input) StepFault
aimed r d = ◌>>=◌ r (λ a. Ok (a, d))

address_below : (image : List Span) (e : ℕ) (bases : Bases) (c : Input) → IsBelow (tables.address image e bases c) (suc (length c.bytes))
address_below image e bases c =
    then_below (tables.table_reading (pointer e bases c)) (λ p. aimed (tables.target image p.0) p.1) (suc (length c.bytes)) (suc (length c.bytes)) (read_below (pointer e bases c) (suc (length c.bytes)) (pointer_below e bases c))
    (λ p lt. go (tables.target image p.0) p.1 lt)
  where
    go : (r : Result ℕ StepFault) (d : Input) → length d.bytes < suc (length c.bytes) → IsBelow (aimed r d) (suc (length c.bytes))
    go (Ok a) d lt = lt
    go (Err e) d lt = tt

-- ---- call sites
site_below : (image : List Span) (bases : Bases) (e : ℕ) (c : Input) → IsBelow (tables.call_site image bases e c) (length c.bytes)
site_below image bases e c =
    then_below (tables.address image e bases c) _ (suc (length c.bytes)) (length c.bytes) (address_below image e bases c) (λ from a.
    then_below (tables.address image e bases from.1) _ (suc (length from.1.bytes)) (length c.bytes) (address_below image e bases from.1) (λ size b.
    then_below (tables.address image e bases size.1) _ (suc (length size.1.bytes)) (length c.bytes) (address_below image e bases size.1) (λ pad d.
    then_below (tables.table_reading (uleb pad.1)) _ (length pad.1.bytes) (length c.bytes) (read_below (uleb pad.1) (length pad.1.bytes) (uleb_below pad.1)) (λ index f. omega arith))))

-- a call site takes a byte at least
pub site_takes : (image : List Span) (bases : Bases) (e : ℕ) (c d : Input) (s : tables.CallSite) → tables.call_site image bases e c ≡ Ok (s, d) → length d.bytes < length c.bytes
site_takes image bases e c d s reads = subst (λ (r : Result (tables.CallSite × Input) StepFault). IsBelow r (length c.bytes)) reads (site_below image bases e c)
