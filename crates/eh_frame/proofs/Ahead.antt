-- Each entry ends after its start, and inside its table.
use Rattle.std.proofs.Common.{◌≡◌, ℕ, ◌+◌, ◌-◌, ◌<◌, ◌≤◌, ◌^◌, Bool, true, false, cond, length, take, drop, Option, Some, None, Result, Ok, Err, refl, sym, ap, subst, arith}
use Rattle.std.specs.Prelude.{nat_lt, ◌==◌, if◌then◌else◌}
use Rattle.std.specs.Int.{Width, w32, w64, byte_len, from_le_bytes}
use Rattle.std.proofs.lemmas.Bool.{ltb-false}
use Rattle.std.proofs.lemmas.List.{length-drop}
use Rattle.unwind_definitions.specs.declared.error.Error.{Error as Fault}
use Rattle.unwind_definitions.specs.declared.error.Error.TheVariants.{UnexpectedEof}
use Rattle.unwind_definitions.specs.Faults.{◌>>=◌}
use Rattle.unwind_definitions.specs.Input.{Input, skip, split, number}
use Rattle.unwind_definitions.specs.Pointers.{Bases}
use Rattle.unwind_definitions.specs.Entries.{Entry, Found, body, length_after, entry_in, found_in, entry_at}

-- so many bytes are there, and a place stands after them
abbrev IsAfter : ℕ → Input → Input → Type 0
IsAfter n c d = (n ≤ length c.bytes) × (d ≡ skip n c)

rest_or : {A : Type 0} → Input → Result (A × Input) Fault → Input
rest_or c (Ok r) = r.1
rest_or c (Err e) = c

same_rest : {A : Type 0} (a b : A) (c d : Input) → ◌≡◌ {A = Result (A × Input) Fault} (Ok (a, c)) (Ok (b, d)) → c ≡ d
unfolding rest_or
same_rest a b c d e = ap (rest_or c) e

abbrev reads : {A : Type 0} → A → Input → Result (A × Input) Fault
reads a c = Ok (a, c)

abbrev unread : {A : Type 0} → Fault → Result (A × Input) Fault
unread e = Err e

number_after : (w : Width) (c : Input) (n : ℕ) (d : Input) → number w c ≡ Ok (n, d) → IsAfter (byte_len w) c d
number_after w c n d e = go (nat_lt (length c.bytes) (byte_len w)) refl e
  where
    go : (b : Bool) → nat_lt (length c.bytes) (byte_len w) ≡ b → cond b (unread UnexpectedEof) (reads (from_le_bytes w (take (byte_len w) c.bytes)) (skip (byte_len w) c)) ≡ Ok (n, d) → IsAfter (byte_len w) c d
    go true is e = absurd cc
    go false is e = (ltb-false (length c.bytes) (byte_len w) is, sym (same_rest _ n (skip (byte_len w) c) d e))

abbrev front : ℕ → Input → Input
front n c = record { base = c.base; offset = c.offset; bytes = take n c.bytes }

split_after : (n : ℕ) (c b d : Input) → split n c ≡ Ok (b, d) → IsAfter n c d
split_after n c b d e = go (nat_lt (length c.bytes) n) refl e
  where
    go : (t : Bool) → nat_lt (length c.bytes) n ≡ t → cond t (unread UnexpectedEof) (reads (front n c) (skip n c)) ≡ Ok (b, d) → IsAfter n c d
    go true is e = absurd cc
    go false is e = (ltb-false (length c.bytes) n is, sym (same_rest _ b (skip n c) d e))

-- a place is ahead of another, and not after the end of its bytes
abbrev IsAhead : Input → ℕ → Type 0
IsAhead c next = (c.offset < next) × (next ≤ c.offset + length c.bytes)

has_part : Result (Option Input × Input) Fault → Bool
has_part (Ok (Some b, rest)) = true
has_part (Ok (None, rest)) = false
has_part (Err e) = false

no_part : (b c d : Input) → ◌≡◌ {A = Result (Option Input × Input) Fault} (Ok (None, c)) (Ok (Some b, d)) → ⊥
unfolding has_part
no_part b c d e = let h : false ≡ true = ap has_part e in absurd cc

abbrev some_part : Input × Input → Result (Option Input × Input) Fault
some_part b = Ok (Some b.0, b.1)

-- a place stands so many bytes further, and its bytes end where they did
abbrev Passes : ℕ → Input → Input → Type 0
Passes n c d = (d.offset ≡ c.offset + n) × (d.offset + length d.bytes ≡ c.offset + length c.bytes)

after_passes : (n : ℕ) (c d : Input) → IsAfter n c d → Passes n c d
after_passes n c d after =
    let cut : length (drop n c.bytes) ≡ length c.bytes - n = length-drop n c.bytes in
    let at : d.offset ≡ c.offset + n = ap (λ (x : Input). x.offset) after.1 in
    let left : length d.bytes ≡ length (drop n c.bytes) = ap (λ (x : Input). length x.bytes) after.1 in
    let fits = after.0 in
    (at, omega arith)

length_passes : (n : ℕ × Input) (len : ℕ) (d : Input) → length_after n ≡ Ok (len, d) → (k : ℕ) × Passes k n.1 d
length_passes n len d e = go (n.0 == 2 ^ 32 - 1) e
  where
    go : (t : Bool) → cond t (number w64 n.1) (Ok n) ≡ Ok (len, d) → (k : ℕ) × Passes k n.1 d
    go true e = (8, after_passes 8 n.1 d (number_after w64 n.1 len d e))
    go false e = let same : n.1 ≡ d = same_rest n.0 len n.1 d e in let at : d.offset ≡ n.1.offset = ap (λ (x : Input). x.offset) (sym same) in (0, (omega arith, ap (λ (x : Input). x.offset + length x.bytes) (sym same)))

ahead_by : (k n : ℕ) (c rest len d : Input) → Passes 4 c rest → Passes k rest len → Passes n len d → IsAhead c d.offset
ahead_by k n c rest len d four long more =
    let a = four.0 in let b = four.1 in let e = long.0 in let f = long.1 in let g = more.0 in let h = more.1 in
    (omega arith, omega arith)

body_ahead : (c b d : Input) → body c ≡ Ok (Some b, d) → IsAhead c d.offset
body_ahead c b d e = go (length c.bytes == 0) (number w32 c) refl e
  where
    part : (k : ℕ) (rest : Input) (len : ℕ × Input) (r : Result (Input × Input) Fault) → Passes 4 c rest → Passes k rest len.1 → split len.0 len.1 ≡ r → (r >>= some_part) ≡ Ok (Some b, d) → IsAhead c d.offset
    part k rest len (Err f) four long is e = absurd cc
    part k rest len (Ok x) four long is e =
        subst (λ (y : Input). IsAhead c y.offset) (same_rest _ (Some b) x.1 d e) (ahead_by k len.0 c rest len.1 x.1 four long (after_passes len.0 len.1 x.1 (split_after len.0 len.1 x.0 x.1 is)))

    long : (n : ℕ × Input) (r : Result (ℕ × Input) Fault) → Passes 4 c n.1 → length_after n ≡ r → (r >>= λ len. split len.0 len.1 >>= some_part) ≡ Ok (Some b, d) → IsAhead c d.offset
    long n (Err f) four is e = absurd cc
    long n (Ok len) four is e = let passes = length_passes n len.0 len.1 is in part passes.0 n.1 len (split len.0 len.1) four passes.1 refl e

    after : (n : ℕ × Input) (z : Bool) → Passes 4 c n.1 → cond z (Ok (None, n.1)) (length_after n >>= λ len. split len.0 len.1 >>= some_part) ≡ Ok (Some b, d) → IsAhead c d.offset
    after n true four e = absurd (no_part b n.1 d e)
    after n false four e = long n (length_after n) four refl e

    go : (z : Bool) (r : Result (ℕ × Input) Fault) → number w32 c ≡ r → cond z (Ok (None, c)) (r >>= λ n. if n.0 == 0 then Ok (None, n.1) else (length_after n >>= λ len. split len.0 len.1 >>= some_part)) ≡ Ok (Some b, d) → IsAhead c d.offset
    go true r is e = absurd (no_part b c d e)
    go false (Err f) is e = absurd cc
    go false (Ok n) is e = after n (n.0 == 0) (after_passes 4 c n.1 (number_after w32 c n.0 n.1 is)) e

next_of : Result (Option Found) Fault → ℕ
next_of (Ok (Some f)) = f.next
next_of (Ok None) = 0
next_of (Err f) = 0

abbrev placed_before : ℕ → Entry → Result (Option Found) Fault
placed_before next x = Ok (Some (record { entry = x; next = next }))

-- The next entry stands ahead of an entry of a table, and not after the table's end.
pub entry_ahead : (bases : Bases) (table : Input) (offset : ℕ) (found : Found) → entry_at bases table offset ≡ Ok (Some found) → IsAhead (skip offset table) found.next
unfolding entry_at next_of
entry_ahead bases table offset found at = go (body (skip offset table)) refl at
  where
    inner : (b d : Input) (r : Result Entry Fault) → IsAhead (skip offset table) d.offset → (r >>= placed_before d.offset) ≡ Ok (Some found) → IsAhead (skip offset table) found.next
    inner b d (Err f) ahead h = absurd cc
    inner b d (Ok x) ahead h = subst (IsAhead (skip offset table)) (ap next_of h) ahead

    go : (r : Result (Option Input × Input) Fault) → body (skip offset table) ≡ r → (r >>= λ b. found_in bases table offset b.0 b.1.offset) ≡ Ok (Some found) → IsAhead (skip offset table) found.next
    go (Err f) is h = absurd cc
    go (Ok (None, d)) is h = absurd cc
    go (Ok (Some b, d)) is h = inner b d (entry_in bases table offset b) (body_ahead (skip offset table) b d is) h

-- the same of a table that nothing stands before
pub next_within : (bases : Bases) (table : Input) (offset : ℕ) (found : Found) → table.offset ≡ 0 → offset ≤ length table.bytes → entry_at bases table offset ≡ Ok (Some found) →
    (offset < found.next) × (found.next ≤ length table.bytes)
next_within bases table offset found start within at =
    let ahead = entry_ahead bases table offset found at in
    let low = ahead.0 in let high = ahead.1 in
    let cut : length (drop offset table.bytes) ≡ length table.bytes - offset = length-drop offset table.bytes in
    (omega arith, omega arith)
