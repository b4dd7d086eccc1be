-- A scan of a table whose entries are known, and what it finds in a described module.
use Rattle.std.proofs.Common.{◌≡◌, ℕ, zero, suc, ◌+◌, ◌-◌, ◌*◌, ◌^◌, ◌<◌, ◌≤◌, Bool, true, false, cond, List, [], ◌∷◌, length, drop, take, Option, Some, None, Result, Ok, Err, refl, sym, ap, subst, arith}
use Rattle.std.specs.Prelude.{◌==◌, if◌then◌else◌, nat_lt}
use Rattle.std.specs.Int.{w32, w64, from_le_bytes}
use Rattle.std.proofs.lemmas.Bool.{ltb-false}
use Rattle.std.proofs.lemmas.List.{length-drop}
use Rattle.unwind_definitions.specs.declared.error.Error.{Error as Fault}
use Rattle.unwind_definitions.specs.declared.error.Error.TheVariants.{UnexpectedEof}
use Rattle.unwind_definitions.specs.Faults.{◌>>=◌}
use Rattle.unwind_definitions.specs.Input.{Input, skip, split, number}
use Rattle.unwind_definitions.specs.Pointers.{Bases}
use Rattle.unwind_definitions.specs.Entries.{Entry, ACie, AFde, Found, body, length_after, entry_in, found_in, entry_at, AreEntries}
use Rattle.unwind_definitions.specs.Row.{covers_pc}
use Rattle.unwind_definitions.specs.Scan.{fdes_of, scan_from, scan}
use Rattle.unwind_laws.specs.Found.{found_among}

module _ (bases : Bases) (table : Input) (pc : ℕ) where
  -- with turns enough, a scan answers the first description that contains the address
  scanned : (turns o : ℕ) (entries : List Entry) → AreEntries bases table o entries → length entries < turns → scan_from turns bases table pc o ≡ found_among (fdes_of entries) pc
  scanned zero o entries are lt = absurd (omega arith)
  scanned (suc turns) o [] are lt = rw are refl
  scanned (suc turns) o (ACie cie ∷ entries) are lt = rw are.1 (scanned turns are.0 entries are.2 (omega arith))
  scanned (suc turns) o (AFde fde ∷ entries) are lt = rw are.1 (go (covers_pc fde pc) refl (scanned turns are.0 entries are.2 (omega arith)))
    where
      go : (b : Bool) → covers_pc fde pc ≡ b → scan_from turns bases table pc are.0 ≡ found_among (fdes_of entries) pc →
          (if covers_pc fde pc then Ok fde else scan_from turns bases table pc are.0) ≡ found_among (fde ∷ fdes_of entries) pc
      go true e ih = rw e refl
      go false e ih = rw e ih

-- ---- each entry takes a byte

-- what a reading left begins after where it began, and inside its bytes
pub record Moves (least : ℕ) (from to : Input) : Type 0 where
  pub ahead : from.offset + least ≤ to.offset
  pub inside : to.offset + length to.bytes ≡ from.offset + length from.bytes

abbrev reads : {A : Type 0} → A → Input → Result (A × Input) Fault
reads a c = Ok (a, c)

abbrev unread : {A : Type 0} → Fault → Result (A × Input) Fault
unread e = Err e

rest_or : {A : Type 0} → Input → Result (A × Input) Fault → Input
rest_or c (Ok r) = r.1
rest_or c (Err e) = c

same_rest : {A : Type 0} (a b : A) (c d : Input) → ◌≡◌ {A = Result (A × Input) Fault} (Ok (a, c)) (Ok (b, d)) → c ≡ d
unfolding rest_or
same_rest a b c d e = ap (rest_or c) e

skipped : (n : ℕ) (c : Input) → n ≤ length c.bytes → Moves n c (skip n c)
skipped n c le = let cut : length (drop n c.bytes) ≡ length c.bytes - n = length-drop n c.bytes in record { ahead = omega arith; inside = omega arith }

number_moves : (c : Input) (n : ℕ) (d : Input) → number w32 c ≡ Ok (n, d) → Moves 4 c d
number_moves c n d e = go (nat_lt (length c.bytes) 4) refl e
  where
    go : (b : Bool) → nat_lt (length c.bytes) 4 ≡ b → cond b (unread UnexpectedEof) (reads (from_le_bytes w32 (take 4 c.bytes)) (skip 4 c)) ≡ Ok (n, d) → Moves 4 c d
    go true is e = absurd cc
    go false is e = let le = ltb-false (length c.bytes) 4 is in subst (Moves 4 c) (same_rest _ n (skip 4 c) d e) (skipped 4 c le)

wide_moves : (c : Input) (n : ℕ) (d : Input) → number w64 c ≡ Ok (n, d) → Moves 0 c d
wide_moves c n d e = go (nat_lt (length c.bytes) 8) refl e
  where
    go : (b : Bool) → nat_lt (length c.bytes) 8 ≡ b → cond b (unread UnexpectedEof) (reads (from_le_bytes w64 (take 8 c.bytes)) (skip 8 c)) ≡ Ok (n, d) → Moves 0 c d
    go true is e = absurd cc
    go false is e =
        let le = ltb-false (length c.bytes) 8 is in
        let m = skipped 8 c le in
        let a = m.ahead in
        subst (Moves 0 c) (same_rest _ n (skip 8 c) d e) (record { ahead = omega arith; inside = m.inside })

abbrev front : ℕ → Input → Input
front n c = record { base = c.base; offset = c.offset; bytes = take n c.bytes }

split_moves : (n : ℕ) (c b d : Input) → split n c ≡ Ok (b, d) → Moves 0 c d
split_moves n c b d e = go (nat_lt (length c.bytes) n) refl e
  where
    go : (t : Bool) → nat_lt (length c.bytes) n ≡ t → cond t (unread UnexpectedEof) (reads (front n c) (skip n c)) ≡ Ok (b, d) → Moves 0 c d
    go true is e = absurd cc
    go false is e =
        let le = ltb-false (length c.bytes) n is in
        let m = skipped n c le in
        let a = m.ahead in
        subst (Moves 0 c) (same_rest _ b (skip n c) d e) (record { ahead = omega arith; inside = m.inside })

joined : (c d e : Input) (k : ℕ) → Moves k c d → Moves 0 d e → Moves k c e
joined c d e k m n = let a = m.ahead in let b = n.ahead in let x = m.inside in let y = n.inside in record { ahead = omega arith; inside = omega arith }

has_part : Result (Option Input × Input) Fault → Bool
has_part (Ok (Some b, rest)) = true
has_part (Ok (None, rest)) = false
has_part (Err e) = false

no_part : (b c d : Input) → ◌≡◌ {A = Result (Option Input × Input) Fault} (Ok (None, c)) (Ok (Some b, d)) → ⊥
unfolding has_part
no_part b c d e = let h : false ≡ true = ap has_part e in absurd cc

length_moves : (n len : ℕ × Input) → length_after n ≡ Ok len → Moves 0 n.1 len.1
length_moves n len e = go (n.0 == 2 ^ 32 - 1) e
  where
    same : (x y : ℕ × Input) → ◌≡◌ {A = Result (ℕ × Input) Fault} (Ok x) (Ok y) → x.1 ≡ y.1
    same x y e = same_rest x.0 y.0 x.1 y.1 e

    plain : ◌≡◌ {A = Result (ℕ × Input) Fault} (Ok n) (Ok len) → Moves 0 n.1 len.1
    plain e = subst (Moves 0 n.1) (same n len e) (record { ahead = omega arith; inside = refl })

    go : (b : Bool) → cond b (number w64 n.1) (Ok n) ≡ Ok len → Moves 0 n.1 len.1
    go true e = wide_moves n.1 len.0 len.1 e
    go false e = plain e

abbrev some_part : Input × Input → Result (Option Input × Input) Fault
some_part b = Ok (Some b.0, b.1)

abbrev part_of : ℕ × Input → Result (Option Input × Input) Fault
part_of len = split len.0 len.1 >>= some_part

part_moves : (len : ℕ × Input) (b rest : Input) → part_of len ≡ Ok (Some b, rest) → Moves 0 len.1 rest
part_moves len b rest e = go (split len.0 len.1) refl e
  where
    go : (r : Result (Input × Input) Fault) → split len.0 len.1 ≡ r → (r >>= some_part) ≡ Ok (Some b, rest) → Moves 0 len.1 rest
    go (Err f) is e = absurd cc
    go (Ok x) is e = subst (Moves 0 len.1) (same_rest _ (Some b) x.1 rest e) (split_moves len.0 len.1 x.0 x.1 is)

abbrev after_length : ℕ × Input → Result (Option Input × Input) Fault
after_length n = if n.0 == 0 then Ok (None, n.1) else (length_after n >>= λ len. part_of len)

after_moves : (n : ℕ × Input) (b rest : Input) → after_length n ≡ Ok (Some b, rest) → Moves 0 n.1 rest
after_moves n b rest e = go (n.0 == 0) (length_after n) refl e
  where
    go : (z : Bool) (r : Result (ℕ × Input) Fault) → length_after n ≡ r → cond z (Ok (None, n.1)) (r >>= λ len. part_of len) ≡ Ok (Some b, rest) → Moves 0 n.1 rest
    go true r is e = absurd (no_part b n.1 rest e)
    go false (Err f) is e = absurd cc
    go false (Ok len) is e = joined n.1 len.1 rest 0 (length_moves n len is) (part_moves len b rest e)

body_moves : (c b rest : Input) → body c ≡ Ok (Some b, rest) → Moves 4 c rest
body_moves c b rest e = go (length c.bytes == 0) (number w32 c) refl e
  where
    go : (z : Bool) (r : Result (ℕ × Input) Fault) → number w32 c ≡ r → cond z (Ok (None, c)) (r >>= λ n. after_length n) ≡ Ok (Some b, rest) → Moves 4 c rest
    go true r is e = absurd (no_part b c rest e)
    go false (Err f) is e = absurd cc
    go false (Ok n) is e = joined c n.1 rest 4 (number_moves c n.0 n.1 is) (after_moves n b rest e)

-- an entry's next offset is where its body ends
pub record EndsAt (c : Input) (next : ℕ) : Type 0 where
  pub inner : Input
  pub rest : Input
  pub is : body c ≡ Ok (Some inner, rest)
  pub next_is : next ≡ rest.offset

abbrev placed_before : ℕ → Entry → Result (Option Found) Fault
placed_before next x = Ok (Some (record { entry = x; next = next }))

entry_ends : (bases : Bases) (table : Input) (o : ℕ) (e : Entry) (next : ℕ) → entry_at bases table o ≡ Ok (Some (record { entry = e; next = next })) → EndsAt (skip o table) next
unfolding entry_at
entry_ends bases table o e next at = go (body (skip o table)) refl at
  where
    next_of : Result (Option Found) Fault → ℕ
    next_of (Ok (Some f)) = f.next
    next_of (Ok None) = 0
    next_of (Err f) = 0

    inner : (b rest : Input) (r : Result Entry Fault) → (r >>= placed_before rest.offset) ≡ Ok (Some (record { entry = e; next = next })) → next ≡ rest.offset
    inner b rest (Err f) h = absurd cc
    inner b rest (Ok x) h = sym (ap next_of h)

    go : (r : Result (Option Input × Input) Fault) → body (skip o table) ≡ r → (r >>= λ b. found_in bases table o b.0 b.1.offset) ≡ Ok (Some (record { entry = e; next = next })) → EndsAt (skip o table) next
    go (Err f) is h = absurd cc
    go (Ok (None, rest)) is h = absurd cc
    go (Ok (Some b, rest)) is h = record { inner = b; rest = rest; is = is; next_is = inner b rest (entry_in bases table o b) h }

-- each entry takes four bytes at least
taken : (bases : Bases) (table : Input) (o : ℕ) (entries : List Entry) → table.offset ≡ 0 → o ≤ length table.bytes → AreEntries bases table o entries → o + 4 * length entries ≤ length table.bytes
taken bases table o [] start le are = omega arith
taken bases table o (e ∷ entries) start le are =
    let ends = entry_ends bases table o e are.0 are.1 in
    let m = body_moves (skip o table) ends.inner ends.rest ends.is in
    let a = m.ahead in let x = m.inside in
    let cut : length (drop o table.bytes) ≡ length table.bytes - o = length-drop o table.bytes in
    let at = ends.next_is in
    let ih = taken bases table are.0 entries start (omega arith) are.2 in
    omega arith

-- A scan of a table that reads as entries answers the first description that contains the address.
pub scan_is : (bases : Bases) (table : Input) (pc : ℕ) (entries : List Entry) → table.offset ≡ 0 → AreEntries bases table 0 entries → scan bases table pc ≡ found_among (fdes_of entries) pc
unfolding scan
scan_is bases table pc entries start are = let few = taken bases table 0 entries start (omega arith) are in scanned bases table pc (suc (length table.bytes)) 0 entries are (omega arith)
