-- What bytes spell is what is read.
use Rattle.std.proofs.Common.{◌≡◌, ℕ, zero, suc, ◌+◌, ◌-◌, ◌*◌, ◌%◌, ◌^◌, ◌<◌, ◌≤◌, Bool, true, false, cond, ltb, leb, eqb, List, [], ◌∷◌, ◌++◌, length, get_or, Result, Ok, Err, refl, sym, ap, ◌∙◌, arith, inl, inr}
use Rattle.std.specs.Prelude.{if◌then◌else◌}
use Rattle.std.specs.Int.{w8}
use Rattle.std.proofs.lemmas.Bool.{le-ltb, lt-ltb, ltb-true, ltb-false, le-leb, leb-true, leb-false, eqb-true}
use Rattle.std.proofs.Math.Nat.{pow-succ'}
use Rattle.unwind_definitions.specs.declared.error.Error.{Error as Fault}
use Rattle.unwind_definitions.specs.declared.error.Error.TheVariants.{BadUnsignedLeb128, BadSignedLeb128, UnexpectedEof}
use Rattle.unwind_definitions.specs.Faults.{◌>>=◌}
use Rattle.unwind_definitions.specs.Input.{Input, number, signed_word, uleb_from, uleb, sleb_from, sleb}
use Rattle.unwind_definitions.specs.Numbers.{digits, EndsOnce, has_sign, IsSignOnly}
use Rattle.unwind_laws.specs.Spelled.{AreBytes, Follows, BeginsUnsigned, BeginsSigned}

abbrev input : ℕ → ℕ → List ℕ → Input
input base offset bytes = record { base = base; offset = offset; bytes = bytes }

-- the first byte
pub one_byte : (base offset b : ℕ) (bs : List ℕ) → number w8 (input base offset (b ∷ bs)) ≡ Ok (b, input base (offset + 1) bs)
one_byte base offset b bs = let some : 1 ≤ length (b ∷ bs) = omega arith in rw (le-ltb (length (b ∷ bs)) 1 some) refl

no_byte : (base offset : ℕ) → number w8 (input base offset []) ≡ Err UnexpectedEof
no_byte base offset = refl

-- what a reading gives
abbrev read : ℕ → Input → Result (ℕ × Input) Fault
read n d = Ok (n, d)

same_read : (base n m o p : ℕ) (rest : List ℕ) → n ≡ m → o ≡ p → read n (input base o rest) ≡ read m (input base p rest)
same_read base n m o p rest a b = ap (λ k. read k (input base o rest)) a ∙ ap (λ k. read m (input base k rest)) b

number_of : Result (ℕ × Input) Fault → ℕ
number_of (Ok r) = r.0
number_of (Err e) = 0

rest_of : Input → Result (ℕ × Input) Fault → Input
rest_of c (Ok r) = r.1
rest_of c (Err e) = c

same_number : (n m : ℕ) (c d : Input) → read n c ≡ read m d → n ≡ m
unfolding number_of
same_number n m c d e = ap number_of e

same_rest : (n m : ℕ) (c d : Input) → read n c ≡ read m d → c ≡ d
unfolding rest_of
same_rest n m c d e = ap (rest_of c) e

-- ---- unsigned numbers
abbrev more_unsigned : ℕ → ℕ × Input → Result (ℕ × Input) Fault
more_unsigned b high = Ok (b - 128 + 128 * high.0, high.1)

abbrev bad : Fault → Result (ℕ × Input) Fault
bad e = Err e

last_unsigned : (base offset b : ℕ) (bs : List ℕ) → uleb_from 1 (input base offset (b ∷ bs)) ≡ cond (leb b 1) (read b (input base (offset + 1) bs)) (bad BadUnsignedLeb128)
last_unsigned base offset b bs = ap (λ r. r >>= λ x. cond (leb x.0 1) (Ok x) (bad BadUnsignedLeb128)) (one_byte base offset b bs)

next_unsigned : (left base offset b : ℕ) (bs : List ℕ) → uleb_from (suc (suc left)) (input base offset (b ∷ bs)) ≡ cond (ltb b 128) (read b (input base (offset + 1) bs)) (uleb_from (suc left) (input base (offset + 1) bs) >>= more_unsigned b)
next_unsigned left base offset b bs = ap (λ r. r >>= λ x. cond (ltb x.0 128) (Ok x) (uleb_from (suc left) x.1 >>= more_unsigned x.0)) (one_byte base offset b bs)

forward : (left base offset : ℕ) (bs rest : List ℕ) → EndsOnce bs → length bs ≤ suc left → get_or bs left 0 ≤ 1 → uleb_from (suc left) (input base offset (bs ++ rest)) ≡ read (digits bs) (input base (offset + length bs) rest)
forward left base offset [] rest ends size tenth = absurd ends
forward zero base offset (b ∷ []) rest ends size tenth =
    let le : b ≤ 1 = tenth in
    last_unsigned base offset b rest ∙ rw (le-leb b 1 le) (same_read base b (b % 128 + 128 * 0) (offset + 1) (offset + length (b ∷ [])) rest (omega arith) (omega arith))
forward zero base offset (b ∷ c ∷ bs) rest ends size tenth = absurd (omega arith)
forward (suc left) base offset (b ∷ []) rest ends size tenth =
    let lt : b < 128 = ends in
    next_unsigned left base offset b rest ∙ rw (lt-ltb b 128 lt) (same_read base b (b % 128 + 128 * 0) (offset + 1) (offset + length (b ∷ [])) rest (omega arith) (omega arith))
forward (suc left) base offset (b ∷ c ∷ bs) rest ends size tenth =
    let high : 128 ≤ b = ends.0 in let byte : b < 256 = ends.1 in
    let ih = forward left base (offset + 1) (c ∷ bs) rest ends.2 (omega arith) tenth in
    next_unsigned left base offset b (c ∷ bs ++ rest) ∙ rw (le-ltb b 128 high) (ap (λ r. r >>= more_unsigned b) ih
    ∙ same_read base (b - 128 + 128 * digits (c ∷ bs)) (digits (b ∷ c ∷ bs)) (offset + 1 + length (c ∷ bs)) (offset + length (b ∷ c ∷ bs)) rest (omega arith) (omega arith))

-- bytes that spell a number, of which so many may come
pub record Spelt (left : ℕ) (c : Input) (n : ℕ) (d : Input) : Type 0 where
  pub bytes : List ℕ
  pub follows : Follows c bytes d
  pub ends : EndsOnce bytes
  pub size : length bytes ≤ suc left
  pub tenth : get_or bytes left 0 ≤ 1
  pub number : n ≡ digits bytes

one_spelt : (left base offset b : ℕ) (rest : List ℕ) (n : ℕ) (d : Input) → b < 128 → get_or (b ∷ []) left 0 ≤ 1 → read b (input base (offset + 1) rest) ≡ read n d → Spelt left (input base offset (b ∷ rest)) n d
one_spelt left base offset b rest n d lt tenth e =
    let is = same_rest b n (input base (offset + 1) rest) d e in
    let number = same_number b n (input base (offset + 1) rest) d e in
    record {
      bytes = b ∷ [];
      follows = record { base = ap (λ (i : Input). i.base) (sym is); offset = ap (λ (i : Input). i.offset) (sym is) ∙ omega arith; parts = ap (λ (i : Input). b ∷ i.bytes) is };
      ends = lt;
      size = omega arith;
      tenth = tenth;
      number = sym number ∙ omega arith;
    }

back : (left base offset : ℕ) (bytes : List ℕ) (n : ℕ) (d : Input) → AreBytes bytes → uleb_from (suc left) (input base offset bytes) ≡ read n d → Spelt left (input base offset bytes) n d
back zero base offset [] n d are e = absurd cc
back (suc left) base offset [] n d are e = absurd cc
back zero base offset (b ∷ bs) n d are e = go (leb b 1) refl (sym (last_unsigned base offset b bs) ∙ e)
  where
    go : (t : Bool) → leb b 1 ≡ t → cond t (read b (input base (offset + 1) bs)) (bad BadUnsignedLeb128) ≡ read n d → Spelt zero (input base offset (b ∷ bs)) n d
    go true is e = let le = leb-true b 1 is in one_spelt zero base offset b bs n d (omega arith) le e
    go false is e = absurd cc
back (suc left) base offset (b ∷ bs) n d are e = go (ltb b 128) refl (uleb_from (suc left) (input base (offset + 1) bs)) (sym (next_unsigned left base offset b bs) ∙ e) (λ m c h. back left base (offset + 1) bs m c are.1 h)
  where
    none : get_or (b ∷ []) (suc left) 0 ≤ 1
    none = omega arith

    go : (t : Bool) → ltb b 128 ≡ t → (r : Result (ℕ × Input) Fault) → cond t (read b (input base (offset + 1) bs)) (r >>= more_unsigned b) ≡ read n d →
        ((m : ℕ) (c : Input) → r ≡ read m c → Spelt left (input base (offset + 1) bs) m c) → Spelt (suc left) (input base offset (b ∷ bs)) n d
    go true is r e ih = one_spelt (suc left) base offset b bs n d (ltb-true b 128 is) none e
    go false is (Err f) e ih = absurd cc
    go false is (Ok x) e ih = later b bs n d x (ltb-false b 128 is) are.0 e (ih x.0 x.1 refl)
      where
        later : (b : ℕ) (bs : List ℕ) (n : ℕ) (d : Input) (x : ℕ × Input) → 128 ≤ b → b < 256 → read (b - 128 + 128 * x.0) x.1 ≡ read n d → Spelt left (input base (offset + 1) bs) x.0 x.1 → Spelt (suc left) (input base offset (b ∷ bs)) n d
        later b bs n d x high byte e sp =
            let is = same_rest (b - 128 + 128 * x.0) n x.1 d e in
            let number = same_number (b - 128 + 128 * x.0) n x.1 d e in
            let off = sp.follows.offset in
            let size = sp.size in
            let value = sp.number in
            record {
              bytes = b ∷ sp.bytes;
              follows = record {
                base = ap (λ (i : Input). i.base) (sym is) ∙ sp.follows.base;
                offset = ap (λ (i : Input). i.offset) (sym is) ∙ off ∙ omega arith;
                parts = ap (λ (l : List ℕ). b ∷ l) sp.follows.parts ∙ ap (λ (i : Input). b ∷ (sp.bytes ++ i.bytes)) is;
              };
              ends = longer sp.bytes sp.ends;
              size = omega arith;
              tenth = sp.tenth;
              number = sym number ∙ omega arith;
            }
          where
            longer : (xs : List ℕ) → EndsOnce xs → EndsOnce (b ∷ xs)
            longer [] h = absurd h
            longer (y ∷ ys) h = (high, byte, h)

pub unsigned_read : (c d : Input) (n : ℕ) → BeginsUnsigned c n d → uleb c ≡ Ok (n, d)
unsigned_read c d n is =
    let b : List ℕ = is.bytes in
    let parts : c ≡ input c.base c.offset (b ++ d.bytes) = ap (input c.base c.offset) is.follows.parts in
    ap uleb parts ∙ forward 9 c.base c.offset b d.bytes is.spells.ends is.spells.size is.spells.tenth
    ∙ ap (λ k. read k (input c.base (c.offset + length b) d.bytes)) (sym is.spells.number)
    ∙ ap (λ k. read n (input k (c.offset + length b) d.bytes)) (sym is.follows.base)
    ∙ ap (λ k. read n (input d.base k d.bytes)) (sym is.follows.offset)

pub read_unsigned : (c d : Input) (n : ℕ) → AreBytes c.bytes → uleb c ≡ Ok (n, d) → BeginsUnsigned c n d
read_unsigned c d n are e =
    let sp = back 9 c.base c.offset c.bytes n d are e in
    record { bytes = sp.bytes; follows = sp.follows; spells = record { ends = sp.ends; size = sp.size; tenth = sp.tenth; number = sp.number } }

-- ---- signed numbers
abbrev more_signed : ℕ → ℕ × Input → Result (ℕ × Input) Fault
more_signed b high = Ok ((b - 128 + 128 * high.0) % 2 ^ 64, high.1)

last_signed : (base offset b : ℕ) (bs : List ℕ) → sleb_from 1 (input base offset (b ∷ bs)) ≡ cond (eqb b 0) (read b (input base (offset + 1) bs)) (cond (eqb b 127) (read (2 ^ 64 - 1) (input base (offset + 1) bs)) (bad BadSignedLeb128))
last_signed base offset b bs = ap (λ r. r >>= λ x. cond (eqb x.0 0) (Ok x) (cond (eqb x.0 127) (read (2 ^ 64 - 1) x.1) (bad BadSignedLeb128))) (one_byte base offset b bs)

next_signed : (left base offset b : ℕ) (bs : List ℕ) →
    sleb_from (suc (suc left)) (input base offset (b ∷ bs)) ≡ cond (ltb b 128) (read (signed_word 7 b) (input base (offset + 1) bs)) (sleb_from (suc left) (input base (offset + 1) bs) >>= more_signed b)
next_signed left base offset b bs = ap (λ r. r >>= λ x. cond (ltb x.0 128) (read (signed_word 7 x.0) x.1) (sleb_from (suc left) x.1 >>= more_signed x.0)) (one_byte base offset b bs)

-- the word that bytes spell
abbrev pub signed_value : List ℕ → ℕ
signed_value bytes = if has_sign bytes then 2 ^ 64 - (128 ^ length bytes - digits bytes) else digits bytes

-- how large it is, where so many more bytes may come
pub record Sized (left : ℕ) (bytes : List ℕ) : Type 0 where
  pub above : has_sign bytes ≡ false → digits bytes < 128 ^ left
  pub lacks : ℕ
  pub below : has_sign bytes ≡ true → (digits bytes + lacks ≡ 128 ^ length bytes) × (1 ≤ lacks) × (lacks ≤ 128 ^ left)

power : (n : ℕ) → 128 ^ suc n ≡ 128 * 128 ^ n
power n = pow-succ' 128 n

power_positive : (n : ℕ) → 1 ≤ 128 ^ n
power_positive zero = omega arith
power_positive (suc n) = let ih = power_positive n in let p = power n in omega arith

power_rises : (d n : ℕ) → 128 ^ n ≤ 128 ^ (d + n)
power_rises zero n = let same : zero + n ≡ n = omega arith in rw same (omega arith)
power_rises (suc d) n =
    let ih = power_rises d n in let p = power (d + n) in
    let same : suc d + n ≡ suc (d + n) = omega arith in
    rw same (omega arith)

power_small : (n : ℕ) → n ≤ 9 → 128 ^ n ≤ 2 ^ 63
power_small n le = let rise = power_rises (9 - n) n in let nine : (9 - n) + n ≡ 9 = omega arith in let top : 128 ^ ((9 - n) + n) ≡ 2 ^ 63 = rw nine refl in omega arith

sign_is : (b : ℕ) → leb 64 b ≡ true → 64 ≤ b
sign_is b e = leb-true 64 b e

no_sign_is : (b : ℕ) → leb 64 b ≡ false → b < 64
no_sign_is b e = leb-false 64 b e

-- the last byte
last_sized : (left b : ℕ) → b < 128 → IsSignOnly (get_or (b ∷ []) left 0) → Sized left (b ∷ [])
last_sized zero b lt only = record {
  above = λ h. let low = no_sign_is b h in zero_of only low;
  lacks = 128 - b;
  below = λ h. let high = sign_is b h in let p = power 0 in (omega arith, omega arith, most only high);
}
  where
    zero_of : IsSignOnly b → b < 64 → b % 128 + 128 * 0 < 128 ^ 0
    zero_of (inl z) low = omega arith
    zero_of (inr s) low = absurd (omega arith)

    most : IsSignOnly b → 64 ≤ b → 128 - b ≤ 128 ^ 0
    most (inl z) high = absurd (omega arith)
    most (inr s) high = omega arith
last_sized (suc left) b lt only = record {
  above = λ h. let low = no_sign_is b h in let one = power_positive left in let p = power left in omega arith;
  lacks = 128 - b;
  below = λ h. let high = sign_is b h in let one = power_positive left in let p = power left in let q = power 0 in (omega arith, omega arith, omega arith);
}

-- a byte before others
next_sized : (left b c : ℕ) (bs : List ℕ) → 128 ≤ b → b < 256 → Sized left (c ∷ bs) → Sized (suc left) (b ∷ c ∷ bs)
next_sized left b c bs high byte s = record {
  above = λ h. let small = s.above h in let p = power left in let d : digits (b ∷ c ∷ bs) ≡ b - 128 + 128 * digits (c ∷ bs) = omega arith in omega arith;
  lacks = 128 * s.lacks - (b - 128);
  below = λ h.
      let is = s.below h in
      let sum = is.0 in let one = is.1 in let most = is.2 in
      let p = power left in
      let q = power (length (c ∷ bs)) in
      let d : digits (b ∷ c ∷ bs) ≡ b - 128 + 128 * digits (c ∷ bs) = omega arith in
      (omega arith, omega arith, omega arith);
}

sized : (left : ℕ) (bs : List ℕ) → EndsOnce bs → length bs ≤ suc left → IsSignOnly (get_or bs left 0) → Sized left bs
sized left [] ends size only = absurd ends
sized left (b ∷ []) ends size only = last_sized left b ends only
sized zero (b ∷ c ∷ bs) ends size only = absurd (omega arith)
sized (suc left) (b ∷ c ∷ bs) ends size only = next_sized left b c bs ends.0 ends.1 (sized left (c ∷ bs) ends.2 (omega arith) only)

-- the word of a byte before others
next_value : (left b c : ℕ) (bs : List ℕ) → left ≤ 8 → 128 ≤ b → b < 256 → Sized left (c ∷ bs) → (b - 128 + 128 * signed_value (c ∷ bs)) % 2 ^ 64 ≡ signed_value (b ∷ c ∷ bs)
next_value left b c bs few high byte s = go (has_sign (c ∷ bs)) refl
  where
    d : digits (b ∷ c ∷ bs) ≡ b - 128 + 128 * digits (c ∷ bs)
    d = omega arith

    bound : 128 ^ suc left ≤ 2 ^ 63
    bound = power_small (suc left) (omega arith)

    go : (t : Bool) → has_sign (c ∷ bs) ≡ t → (b - 128 + 128 * (cond t (2 ^ 64 - (128 ^ length (c ∷ bs) - digits (c ∷ bs))) (digits (c ∷ bs)))) % 2 ^ 64 ≡
        cond t (2 ^ 64 - (128 ^ length (b ∷ c ∷ bs) - digits (b ∷ c ∷ bs))) (digits (b ∷ c ∷ bs))
    go false h = let small = s.above h in let p = power left in let k = bound in let e = d in omega arith
    go true h =
        let is = s.below h in
        let sum = is.0 in let one = is.1 in let most = is.2 in
        let p = power left in let k = bound in
        let q = power (length (c ∷ bs)) in
        let e = d in
        words b (digits (c ∷ bs)) s.lacks (128 ^ length (c ∷ bs)) (digits (b ∷ c ∷ bs)) (128 ^ length (b ∷ c ∷ bs)) high byte sum one (omega arith) e q
      where
        words : (b x m whole y more : ℕ) → 128 ≤ b → b < 256 → x + m ≡ whole → 1 ≤ m → 128 * m ≤ 2 ^ 63 → y ≡ b - 128 + 128 * x → more ≡ 128 * whole → (b - 128 + 128 * (2 ^ 64 - (whole - x))) % 2 ^ 64 ≡ 2 ^ 64 - (more - y)
        words b x m whole y more high byte sum one most e q =
            let low : whole - x ≡ m = omega arith in
            let lack : more - y ≡ 128 * m - (b - 128) = omega arith in
            rw (low, lack) (wrap (b - 128) m (omega arith) one most)
          where
            wrap : (a m : ℕ) → a < 128 → 1 ≤ m → 128 * m ≤ 2 ^ 63 → (a + 128 * (2 ^ 64 - m)) % 2 ^ 64 ≡ 2 ^ 64 - (128 * m - a)
            wrap a m lt one most = omega arith

single_value : (b : ℕ) → b < 128 → signed_word 7 b ≡ signed_value (b ∷ [])
single_value b lt = go (leb 64 b) refl
  where
    go : (t : Bool) → leb 64 b ≡ t → cond (ltb b 64) b ((2 ^ 64 - 2 ^ 7) + b) ≡ cond t (2 ^ 64 - (128 ^ length (b ∷ []) - digits (b ∷ []))) (digits (b ∷ []))
    go true h = let high = sign_is b h in let p = power 0 in rw (le-ltb b 64 high) (omega arith)
    go false h = let low = no_sign_is b h in rw (lt-ltb b 64 low) (omega arith)

forward_signed : (left base offset : ℕ) (bs rest : List ℕ) → left ≤ 9 → EndsOnce bs → length bs ≤ suc left → IsSignOnly (get_or bs left 0) →
    sleb_from (suc left) (input base offset (bs ++ rest)) ≡ read (signed_value bs) (input base (offset + length bs) rest)
forward_signed left base offset [] rest few ends size only = absurd ends
forward_signed zero base offset (b ∷ []) rest few ends size only = last_signed base offset b rest ∙ go b only
  where
    go : (b : ℕ) → IsSignOnly b → cond (eqb b 0) (read b (input base (offset + 1) rest)) (cond (eqb b 127) (read (2 ^ 64 - 1) (input base (offset + 1) rest)) (bad BadSignedLeb128)) ≡
        read (signed_value (b ∷ [])) (input base (offset + length (b ∷ [])) rest)
    go b (inl z) = rw z (same_read base 0 (signed_value (0 ∷ [])) (offset + 1) (offset + length (b ∷ [])) rest refl (omega arith))
    go b (inr s) = rw s (same_read base (2 ^ 64 - 1) (signed_value (127 ∷ [])) (offset + 1) (offset + length (b ∷ [])) rest refl (omega arith))
forward_signed zero base offset (b ∷ c ∷ bs) rest few ends size only = absurd (omega arith)
forward_signed (suc left) base offset (b ∷ []) rest few ends size only =
    let lt : b < 128 = ends in
    next_signed left base offset b rest ∙ rw (lt-ltb b 128 lt) (same_read base (signed_word 7 b) (signed_value (b ∷ [])) (offset + 1) (offset + length (b ∷ [])) rest (single_value b lt) (omega arith))
forward_signed (suc left) base offset (b ∷ c ∷ bs) rest few ends size only =
    let high : 128 ≤ b = ends.0 in let byte : b < 256 = ends.1 in
    let ih = forward_signed left base (offset + 1) (c ∷ bs) rest (omega arith) ends.2 (omega arith) only in
    next_signed left base offset b (c ∷ bs ++ rest) ∙ rw (le-ltb b 128 high) (ap (λ r. r >>= more_signed b) ih
    ∙ same_read base ((b - 128 + 128 * signed_value (c ∷ bs)) % 2 ^ 64) (signed_value (b ∷ c ∷ bs)) (offset + 1 + length (c ∷ bs)) (offset + length (b ∷ c ∷ bs)) rest
    (next_value left b c bs (omega arith) high byte (sized left (c ∷ bs) ends.2 (omega arith) only)) (omega arith))

-- bytes that spell a signed number, of which so many may come
pub record SpeltSigned (left : ℕ) (c : Input) (n : ℕ) (d : Input) : Type 0 where
  pub bytes : List ℕ
  pub follows : Follows c bytes d
  pub ends : EndsOnce bytes
  pub size : length bytes ≤ suc left
  pub tenth : IsSignOnly (get_or bytes left 0)
  pub number : n ≡ signed_value bytes

one_signed : (left base offset b v : ℕ) (rest : List ℕ) (n : ℕ) (d : Input) → b < 128 → IsSignOnly (get_or (b ∷ []) left 0) → v ≡ signed_value (b ∷ []) → read v (input base (offset + 1) rest) ≡ read n d →
    SpeltSigned left (input base offset (b ∷ rest)) n d
one_signed left base offset b v rest n d lt tenth value e =
    let is = same_rest v n (input base (offset + 1) rest) d e in
    let number = same_number v n (input base (offset + 1) rest) d e in
    record {
      bytes = b ∷ [];
      follows = record { base = ap (λ (i : Input). i.base) (sym is); offset = ap (λ (i : Input). i.offset) (sym is) ∙ omega arith; parts = ap (λ (i : Input). b ∷ i.bytes) is };
      ends = lt;
      size = omega arith;
      tenth = tenth;
      number = sym number ∙ value;
    }

back_signed : (left base offset : ℕ) (bytes : List ℕ) (n : ℕ) (d : Input) → left ≤ 9 → AreBytes bytes → sleb_from (suc left) (input base offset bytes) ≡ read n d → SpeltSigned left (input base offset bytes) n d
back_signed zero base offset [] n d few are e = absurd cc
back_signed (suc left) base offset [] n d few are e = absurd cc
back_signed zero base offset (b ∷ bs) n d few are e = go (eqb b 0) (eqb b 127) refl refl (sym (last_signed base offset b bs) ∙ e)
  where
    zero_value : b ≡ 0 → b ≡ signed_value (b ∷ [])
    zero_value z = rw z refl

    sign_value : b ≡ 127 → 2 ^ 64 - 1 ≡ signed_value (b ∷ [])
    sign_value s = rw s refl

    go : (t u : Bool) → eqb b 0 ≡ t → eqb b 127 ≡ u → cond t (read b (input base (offset + 1) bs)) (cond u (read (2 ^ 64 - 1) (input base (offset + 1) bs)) (bad BadSignedLeb128)) ≡ read n d → SpeltSigned zero (input base offset (b ∷ bs)) n d
    go true u is at e = let z : b ≡ 0 = eqb-true b 0 is in one_signed zero base offset b b bs n d (omega arith) (inl z) (zero_value z) e
    go false true is at e = let s : b ≡ 127 = eqb-true b 127 at in one_signed zero base offset b (2 ^ 64 - 1) bs n d (omega arith) (inr s) (sign_value s) e
    go false false is at e = absurd cc
back_signed (suc left) base offset (b ∷ bs) n d few are e = go (ltb b 128) refl (sleb_from (suc left) (input base (offset + 1) bs)) (sym (next_signed left base offset b bs) ∙ e) (λ m c h. back_signed left base (offset + 1) bs m c (omega arith) are.1 h)
  where
    none : IsSignOnly (get_or (b ∷ []) (suc left) 0)
    none = inl refl

    go : (t : Bool) → ltb b 128 ≡ t → (r : Result (ℕ × Input) Fault) → cond t (read (signed_word 7 b) (input base (offset + 1) bs)) (r >>= more_signed b) ≡ read n d →
        ((m : ℕ) (c : Input) → r ≡ read m c → SpeltSigned left (input base (offset + 1) bs) m c) → SpeltSigned (suc left) (input base offset (b ∷ bs)) n d
    go true is r e ih = let lt = ltb-true b 128 is in one_signed (suc left) base offset b (signed_word 7 b) bs n d lt none (single_value b lt) e
    go false is (Err f) e ih = absurd cc
    go false is (Ok x) e ih = later b bs n d x (ltb-false b 128 is) are.0 e (ih x.0 x.1 refl)
      where
        later : (b : ℕ) (bs : List ℕ) (n : ℕ) (d : Input) (x : ℕ × Input) → 128 ≤ b → b < 256 → read ((b - 128 + 128 * x.0) % 2 ^ 64) x.1 ≡ read n d → SpeltSigned left (input base (offset + 1) bs) x.0 x.1 →
            SpeltSigned (suc left) (input base offset (b ∷ bs)) n d
        later b bs n d x high byte e sp =
            let is = same_rest ((b - 128 + 128 * x.0) % 2 ^ 64) n x.1 d e in
            let number = same_number ((b - 128 + 128 * x.0) % 2 ^ 64) n x.1 d e in
            let off = sp.follows.offset in
            let size = sp.size in
            record {
              bytes = b ∷ sp.bytes;
              follows = record {
                base = ap (λ (i : Input). i.base) (sym is) ∙ sp.follows.base;
                offset = ap (λ (i : Input). i.offset) (sym is) ∙ off ∙ omega arith;
                parts = ap (λ (l : List ℕ). b ∷ l) sp.follows.parts ∙ ap (λ (i : Input). b ∷ (sp.bytes ++ i.bytes)) is;
              };
              ends = longer sp.bytes sp.ends;
              size = omega arith;
              tenth = sp.tenth;
              number = sym number ∙ ap (λ v. (b - 128 + 128 * v) % 2 ^ 64) sp.number ∙ valued sp.bytes sp.ends sp.size sp.tenth;
            }
          where
            longer : (xs : List ℕ) → EndsOnce xs → EndsOnce (b ∷ xs)
            longer [] h = absurd h
            longer (y ∷ ys) h = (high, byte, h)

            valued : (xs : List ℕ) → EndsOnce xs → length xs ≤ suc left → IsSignOnly (get_or xs left 0) → (b - 128 + 128 * signed_value xs) % 2 ^ 64 ≡ signed_value (b ∷ xs)
            valued [] h size only = absurd h
            valued (y ∷ ys) h size only = next_value left b y ys (omega arith) high byte (sized left (y ∷ ys) h size only)

pub signed_read : (c d : Input) (n : ℕ) → BeginsSigned c n d → sleb c ≡ Ok (n, d)
signed_read c d n is =
    let b : List ℕ = is.bytes in
    let parts : c ≡ input c.base c.offset (b ++ d.bytes) = ap (input c.base c.offset) is.follows.parts in
    ap sleb parts ∙ forward_signed 9 c.base c.offset b d.bytes (omega arith) is.spells.ends is.spells.size is.spells.tenth
    ∙ ap (λ k. read k (input c.base (c.offset + length b) d.bytes)) (sym is.spells.number)
    ∙ ap (λ k. read n (input k (c.offset + length b) d.bytes)) (sym is.follows.base)
    ∙ ap (λ k. read n (input d.base k d.bytes)) (sym is.follows.offset)

pub read_signed : (c d : Input) (n : ℕ) → AreBytes c.bytes → sleb c ≡ Ok (n, d) → BeginsSigned c n d
read_signed c d n are e =
    let sp = back_signed 9 c.base c.offset c.bytes n d (omega arith) are e in
    record { bytes = sp.bytes; follows = sp.follows; spells = record { ends = sp.ends; size = sp.size; tenth = sp.tenth; number = sp.number } }
