-- A program that sets no location is what its bytes and the two factors say, wherever the bytes lie.
use Rattle.std.proofs.Common.{◌≡◌, ℕ, zero, suc, ◌*◌, ◌/◌, ◌%◌, ◌^◌, Bool, true, false, List, [], ◌∷◌, length, None, Result, Ok, Err, refl, sym, ap, ◌∙◌, subst}
use Rattle.std.specs.Prelude.{if◌then◌else◌, ◌==◌, nat_lt, nat_le}
use Rattle.std.specs.Int.{Width, w8, w16, w32, byte_len}
use Rattle.unwind_definitions.specs.declared.error.Error.{Error as Fault}
use Rattle.unwind_definitions.specs.declared.error.Error.TheVariants.{UnexpectedEof}
use Rattle.unwind_definitions.specs.Faults.{◌>>=◌}
use Rattle.unwind_definitions.specs.Input.{Input, Reads, split, number, uleb_from, uleb, sleb_from, sleb}
use Rattle.unwind_definitions.specs.Pointers.{direct}
use Rattle.unwind_definitions.specs.Instructions.{Rule, Offset, ValOffset, Undefined, SameValue, Expression, ValExpression, Instruction, Advance, SetLocation, Write, Cfa, CfaOffset, CfaExpression, Arguments, Coding, data_units, column, advance, sets_location, writes_offset, writes_signed, writes, writes_register, resets, writes_block, defines_cfa_signed, defines_cfa_offset_signed, unknown, cfa_definition, offset_rule, register_rule, row_state, operation, saves, instruction_of, instruction, Program, after, program_from, program}
use Rattle.frame_rows.specs.Movable.{IsRelative, IsMovable}

-- the same is read, and the same bytes are left
abbrev pub Same : {A : Type 0} → Result (A × Input) Fault → Result (A × Input) Fault → Type 0
Same (Ok r) (Ok s) = (r.0 ≡ s.0) × (r.1.bytes ≡ s.1.bytes)
Same (Ok r) (Err e) = ⊥
Same (Err e) (Ok r) = ⊥
Same (Err e) (Err f) = e ≡ f

same_then : {A B : Type 0} (x y : Result (A × Input) Fault) (f g : A × Input → Result (B × Input) Fault) → Same x y → ((a : A) (c d : Input) → c.bytes ≡ d.bytes → Same (f (a, c)) (g (a, d))) → Same (x >>= f) (y >>= g)
same_then (Ok r) (Ok s) f g same next = subst (λ a. Same (f r) (g (a, s.1))) same.0 (next r.0 r.1 s.1 same.1)
same_then (Ok r) (Err e) f g same next = absurd same
same_then (Err e) (Ok s) f g same next = absurd same
same_then (Err e) (Err f') f g same next = same

same_if : {A : Type 0} (b : Bool) (x y x' y' : Result (A × Input) Fault) → Same x x' → Same y y' → Same (if b then x else y) (if b then x' else y')
same_if true x y x' y' first second = first
same_if false x y x' y' first second = second

same_choice : {A : Type 0} (b : Bool) (f g f' g' : Reads A) (c d : Input) → Same (f c) (f' d) → Same (g c) (g' d) → Same ((if b then f else g) c) ((if b then f' else g') d)
same_choice true f g f' g' c d first second = first
same_choice false f g f' g' c d first second = second

-- bytes are there, or not
same_there : {A : Type 0} (b b' : Bool) (e : Fault) (r s : A × Input) → b ≡ b' → r.0 ≡ s.0 → r.1.bytes ≡ s.1.bytes → Same (if b then Err e else Ok r) (if b' then Err e else Ok s)
same_there true true e r s is first second = refl
same_there true false e r s is first second = absurd cc
same_there false true e r s is first second = absurd cc
same_there false false e r s is first second = (first, second)

same_number : (w : Width) (c d : Input) → c.bytes ≡ d.bytes → Same (number w c) (number w d)
same_number w c d same = same_there (nat_lt (length c.bytes) (byte_len w)) (nat_lt (length d.bytes) (byte_len w)) UnexpectedEof _ _ (ap (λ (l : List ℕ). nat_lt (length l) (byte_len w)) same) (rw same refl) (rw same refl)

-- a part, of which only the bytes count
abbrev SamePart : Result (Input × Input) Fault → Result (Input × Input) Fault → Type 0
SamePart (Ok r) (Ok s) = (r.0.bytes ≡ s.0.bytes) × (r.1.bytes ≡ s.1.bytes)
SamePart (Ok r) (Err e) = ⊥
SamePart (Err e) (Ok r) = ⊥
SamePart (Err e) (Err f) = e ≡ f

same_split : (n : ℕ) (c d : Input) → c.bytes ≡ d.bytes → SamePart (split n c) (split n d)
same_split n c d same = go (nat_lt (length c.bytes) n) (nat_lt (length d.bytes) n) _ _ (ap (λ (l : List ℕ). nat_lt (length l) n) same) (rw same refl) (rw same refl)
  where
    go : (b b' : Bool) (r s : Input × Input) → b ≡ b' → r.0.bytes ≡ s.0.bytes → r.1.bytes ≡ s.1.bytes → SamePart (if b then Err UnexpectedEof else Ok r) (if b' then Err UnexpectedEof else Ok s)
    go true true r s is first second = refl
    go true false r s is first second = absurd cc
    go false true r s is first second = absurd cc
    go false false r s is first second = (first, second)

part_then : (x y : Result (Input × Input) Fault) (f : List ℕ → Instruction) → SamePart x y → Same (x >>= λ b. Ok (f b.0.bytes, b.1)) (y >>= λ b. Ok (f b.0.bytes, b.1))
part_then (Ok r) (Ok s) f same = (ap f same.0, same.1)
part_then (Ok r) (Err e) f same = absurd same
part_then (Err e) (Ok s) f same = absurd same
part_then (Err e) (Err g) f same = same

same_uleb_from : (left : ℕ) (c d : Input) → c.bytes ≡ d.bytes → Same (uleb_from left c) (uleb_from left d)
same_uleb_from zero c d same = refl
same_uleb_from (suc zero) c d same = same_then (number w8 c) (number w8 d) _ _ (same_number w8 c d same) (λ b x y more. same_if (nat_le b 1) _ _ _ _ (refl, more) refl)
same_uleb_from (suc (suc left)) c d same =
    same_then (number w8 c) (number w8 d) _ _ (same_number w8 c d same) (λ b x y more. same_if (nat_lt b 128) _ _ _ _ (refl, more)
    (same_then (uleb_from (suc left) x) (uleb_from (suc left) y) _ _ (same_uleb_from (suc left) x y more) (λ high v w rest. (refl, rest))))

same_sleb_from : (left : ℕ) (c d : Input) → c.bytes ≡ d.bytes → Same (sleb_from left c) (sleb_from left d)
same_sleb_from zero c d same = refl
same_sleb_from (suc zero) c d same = same_then (number w8 c) (number w8 d) _ _ (same_number w8 c d same) (λ b x y more. same_if (b == 0) _ _ _ _ (refl, more) (same_if (b == 127) _ _ _ _ (refl, more) refl))
same_sleb_from (suc (suc left)) c d same =
    same_then (number w8 c) (number w8 d) _ _ (same_number w8 c d same) (λ b x y more. same_if (nat_lt b 128) _ _ _ _ (refl, more)
    (same_then (sleb_from (suc left) x) (sleb_from (suc left) y) _ _ (same_sleb_from (suc left) x y more) (λ high v w rest. (refl, rest))))

same_uleb : (c d : Input) → c.bytes ≡ d.bytes → Same (uleb c) (uleb d)
same_uleb c d same = same_uleb_from 10 c d same

same_sleb : (c d : Input) → c.bytes ≡ d.bytes → Same (sleb c) (sleb d)
same_sleb c d same = same_sleb_from 10 c d same

same_column : (c d : Input) → c.bytes ≡ d.bytes → Same (column c) (column d)
same_column c d same = same_then (uleb c) (uleb d) _ _ (same_uleb c d same) (λ r x y more. same_if (nat_le r 65535) _ _ _ _ (refl, more) refl)

-- what follows a column
with_column : (f g : ℕ × Input → Result (Instruction × Input) Fault) (c d : Input) → c.bytes ≡ d.bytes → ((r : ℕ) (x y : Input) → x.bytes ≡ y.bytes → Same (f (r, x)) (g (r, y))) → Same (column c >>= f) (column d >>= g)
with_column f g c d same next = same_then (column c) (column d) f g (same_column c d same) next

with_uleb : (f : ℕ → Instruction) (c d : Input) → c.bytes ≡ d.bytes → Same (uleb c >>= λ n. Ok (f n.0, n.1)) (uleb d >>= λ n. Ok (f n.0, n.1))
with_uleb f c d same = same_then (uleb c) (uleb d) _ _ (same_uleb c d same) (λ n x y more. (refl, more))

with_sleb : (f : ℕ → Instruction) (c d : Input) → c.bytes ≡ d.bytes → Same (sleb c >>= λ n. Ok (f n.0, n.1)) (sleb d >>= λ n. Ok (f n.0, n.1))
with_sleb f c d same = same_then (sleb c) (sleb d) _ _ (same_sleb c d same) (λ n x y more. (refl, more))

with_number : (w : Width) (f : ℕ → Instruction) (c d : Input) → c.bytes ≡ d.bytes → Same (number w c >>= λ n. Ok (f n.0, n.1)) (number w d >>= λ n. Ok (f n.0, n.1))
with_number w f c d same = same_then (number w c) (number w d) _ _ (same_number w c d same) (λ n x y more. (refl, more))

with_block : (f : List ℕ → Instruction) (c d : Input) → c.bytes ≡ d.bytes → Same (uleb c >>= λ n. split n.0 n.1 >>= λ b. Ok (f b.0.bytes, b.1)) (uleb d >>= λ n. split n.0 n.1 >>= λ b. Ok (f b.0.bytes, b.1))
with_block f c d same = same_then (uleb c) (uleb d) _ _ (same_uleb c d same) (λ n x y more. part_then (split n x) (split n y) f (same_split n x y more))

abbrev nothing : Program
nothing = record { instructions = []; fault = None }

-- the same is read, where what is read sets no location
abbrev pub Agrees : Result (Instruction × Input) Fault → Result (Instruction × Input) Fault → Type 0
Agrees (Ok r) other = IsRelative r.0 → Same (Ok r) other
Agrees (Err e) other = Unit {0}

same_agrees : (x y : Result (Instruction × Input) Fault) → Same x y → Agrees x y
same_agrees (Ok r) y same = λ relative. same
same_agrees (Err e) y same = tt

agrees_if : (b : Bool) (f g f' g' : Reads Instruction) (c d : Input) → Agrees (f c) (f' d) → Agrees (g c) (g' d) → Agrees ((if b then f else g) c) ((if b then f' else g') d)
agrees_if true f g f' g' c d first second = first
agrees_if false f g f' g' c d first second = second

module _ (k j : Coding) (code : k.code_factor ≡ j.code_factor) (units : k.data_factor ≡ j.data_factor) where
  scaled_same : (n : ℕ) → data_units k n ≡ data_units j n
  scaled_same n = ap (λ u. (n * u) % 2 ^ 64) units

  -- what is set isn't relative
  set_agrees : (c : Input) (other : Result (Instruction × Input) Fault) → Agrees (sets_location k c) other
  set_agrees c other = go (direct k.address k.bases c)
    where
      go : (a : Result (ℕ × Input) Fault) → Agrees (a >>= λ a. Ok (SetLocation a.0, a.1)) other
      go (Ok a) = λ relative. absurd relative
      go (Err e) = tt

  module _ (c d : Input) (same : c.bytes ≡ d.bytes) where
    advance_same : (w : Width) → Same (advance k w c) (advance j w d)
    advance_same w = same_then (number w c) (number w d) _ _ (same_number w c d same) (λ n x y more. (ap (λ f. Advance (n * f)) code, more))

    offset_same : (rule : ℕ → Rule) → Same (writes_offset k rule c) (writes_offset j rule d)
    offset_same rule = with_column _ _ c d same (λ r x y more. same_then (uleb x) (uleb y) _ _ (same_uleb x y more) (λ n v w rest. (ap (λ u. Write r (rule u)) (scaled_same n), rest)))

    signed_same : (rule : ℕ → Rule) → Same (writes_signed k rule c) (writes_signed j rule d)
    signed_same rule = with_column _ _ c d same (λ r x y more. same_then (sleb x) (sleb y) _ _ (same_sleb x y more) (λ n v w rest. (ap (λ u. Write r (rule u)) (scaled_same n), rest)))

    writes_same : (rule : Rule) → Same (writes rule c) (writes rule d)
    writes_same rule = with_column _ _ c d same (λ r x y more. (refl, more))

    register_same : Same (writes_register c) (writes_register d)
    register_same = with_column _ _ c d same (λ r x y more. with_column _ _ x y more (λ s v w rest. (refl, rest)))

    resets_same : Same (resets c) (resets d)
    resets_same = with_column _ _ c d same (λ r x y more. (refl, more))

    block_same : (rule : List ℕ → Rule) → Same (writes_block rule c) (writes_block rule d)
    block_same rule = with_column _ _ c d same (λ r x y more. with_block (λ b. Write r (rule b)) x y more)

    saves_same : (r : ℕ) → Same (saves k r c) (saves j r d)
    saves_same r = same_then (uleb c) (uleb d) _ _ (same_uleb c d same) (λ n x y more. (ap (λ u. Write r (Offset u)) (scaled_same n), more))

    state_same : (op : ℕ) → Same (row_state op unknown c) (row_state op unknown d)
    state_same op =
        same_choice (op == 0x0a) _ _ _ _ c d (refl, same)
        (same_choice (op == 0x0b) _ _ _ _ c d (refl, same)
        (same_choice (op == 0x00) _ _ _ _ c d (refl, same)
        (same_choice (op == 0x2e) _ _ _ _ c d (with_uleb Arguments c d same) refl)))

    rule_same : (op : ℕ) → Same (register_rule op (row_state op unknown) c) (register_rule op (row_state op unknown) d)
    rule_same op =
        same_choice (op == 0x07) _ _ _ _ c d (writes_same Undefined)
        (same_choice (op == 0x08) _ _ _ _ c d (writes_same SameValue)
        (same_choice (op == 0x09) _ _ _ _ c d register_same
        (same_choice (op == 0x10) _ _ _ _ c d (block_same Expression)
        (same_choice (op == 0x16) _ _ _ _ c d (block_same ValExpression)
        (same_choice (op == 0x06) _ _ _ _ c d resets_same (state_same op))))))

    offsets_same : (op : ℕ) → Same (offset_rule k op (register_rule op (row_state op unknown)) c) (offset_rule j op (register_rule op (row_state op unknown)) d)
    offsets_same op =
        same_choice (op == 0x05) _ _ _ _ c d (offset_same Offset)
        (same_choice (op == 0x11) _ _ _ _ c d (signed_same Offset)
        (same_choice (op == 0x14) _ _ _ _ c d (offset_same ValOffset)
        (same_choice (op == 0x15) _ _ _ _ c d (signed_same ValOffset) (rule_same op))))

    cfa_signed_same : Same (defines_cfa_signed k c) (defines_cfa_signed j d)
    cfa_signed_same = with_column _ _ c d same (λ r x y more. same_then (sleb x) (sleb y) _ _ (same_sleb x y more) (λ n v w rest. (ap (λ u. Cfa r u) (scaled_same n), rest)))

    cfa_offset_signed_same : Same (defines_cfa_offset_signed k c) (defines_cfa_offset_signed j d)
    cfa_offset_signed_same = same_then (sleb c) (sleb d) _ _ (same_sleb c d same) (λ n x y more. (ap (λ u. CfaOffset u) (scaled_same n), more))

    cfa_same : (op : ℕ) → Same (cfa_definition k op (offset_rule k op (register_rule op (row_state op unknown))) c) (cfa_definition j op (offset_rule j op (register_rule op (row_state op unknown))) d)
    cfa_same op =
        same_choice (op == 0x0c) _ _ _ _ c d (with_column _ _ c d same (λ r x y more. with_uleb (λ n. Cfa r n) x y more))
        (same_choice (op == 0x12) _ _ _ _ c d cfa_signed_same
        (same_choice (op == 0x0d) _ _ _ _ c d (with_column _ _ c d same (λ r x y more. (refl, more)))
        (same_choice (op == 0x0e) _ _ _ _ c d (with_uleb CfaOffset c d same)
        (same_choice (op == 0x13) _ _ _ _ c d cfa_offset_signed_same
        (same_choice (op == 0x0f) _ _ _ _ c d (with_block CfaExpression c d same) (offsets_same op))))))

    operation_agrees : (op : ℕ) → Agrees (operation k op c) (operation j op d)
    operation_agrees op =
        agrees_if (op == 0x01) _ _ _ _ c d (set_agrees c (sets_location j d))
        (agrees_if (op == 0x02) _ _ _ _ c d (same_agrees _ _ (advance_same w8))
        (agrees_if (op == 0x03) _ _ _ _ c d (same_agrees _ _ (advance_same w16))
        (agrees_if (op == 0x04) _ _ _ _ c d (same_agrees _ _ (advance_same w32)) (same_agrees _ _ (cfa_same op)))))

    instruction_of_agrees : (high low : ℕ) → Agrees (instruction_of k high low c) (instruction_of j high low d)
    unfolding instruction_of
    instruction_of_agrees high low =
        agrees_if (high == 1) _ _ _ _ c d (λ relative. (ap (λ f. Advance (low * f)) code, same))
        (agrees_if (high == 2) _ _ _ _ c d (same_agrees _ _ (saves_same low))
        (agrees_if (high == 3) _ _ _ _ c d (λ relative. (refl, same)) (operation_agrees low)))

  agrees_then : (x y : Result (ℕ × Input) Fault) (f g : ℕ × Input → Result (Instruction × Input) Fault) → Same x y → ((b : ℕ) (c d : Input) → c.bytes ≡ d.bytes → Agrees (f (b, c)) (g (b, d))) → Agrees (x >>= f) (y >>= g)
  agrees_then (Ok r) (Ok s) f g same next = subst (λ a. Agrees (f r) (g (a, s.1))) same.0 (next r.0 r.1 s.1 same.1)
  agrees_then (Ok r) (Err e) f g same next = absurd same
  agrees_then (Err e) y f g same next = tt

  pub instruction_agrees : (c d : Input) → c.bytes ≡ d.bytes → Agrees (instruction k c) (instruction j d)
  instruction_agrees c d same = agrees_then (number w8 c) (number w8 d) _ _ (same_number w8 c d same) (λ b x y more. instruction_of_agrees x y more (b / 64) (b % 64))

  module _ (turns : ℕ) (later : (c d : Input) → c.bytes ≡ d.bytes → IsMovable (program_from turns k c) → program_from turns j d ≡ program_from turns k c) where
    one_more : (r s : Result (Instruction × Input) Fault) → Agrees r s → IsMovable (after r (program_from turns k)) → after s (program_from turns j) ≡ after r (program_from turns k)
    one_more (Err e) s agrees m = let whole = m.whole in absurd cc
    one_more (Ok r) (Err e) agrees m = absurd (agrees m.each.0)
    one_more (Ok r) (Ok s) agrees m =
        let both = agrees m.each.0 in
        let rest = later r.1 s.1 both.1 (record { whole = m.whole; each = m.each.1 }) in
        ap (λ (p : Program). let q : Program = record { instructions = s.0 ∷ p.instructions; fault = p.fault } in q) rest
        ∙ ap (λ i. let q : Program = record { instructions = i ∷ (program_from turns k r.1).instructions; fault = (program_from turns k r.1).fault } in q) (sym both.0)

    a_turn : (b b' : Bool) → b ≡ b' → (r s : Result (Instruction × Input) Fault) → Agrees r s → IsMovable (if b then nothing else after r (program_from turns k)) →
        (if b' then nothing else after s (program_from turns j)) ≡ (if b then nothing else after r (program_from turns k))
    a_turn true true is r s agrees m = refl
    a_turn true false is r s agrees m = absurd cc
    a_turn false true is r s agrees m = absurd cc
    a_turn false false is r s agrees m = one_more r s agrees m

  -- a program of which the whole can be read, and sets no location, is the same from the same bytes elsewhere
  from_bytes : (turns : ℕ) (c d : Input) → c.bytes ≡ d.bytes → IsMovable (program_from turns k c) → program_from turns j d ≡ program_from turns k c
  from_bytes zero c d same movable = refl
  from_bytes (suc turns) c d same movable =
      a_turn turns (from_bytes turns) (length c.bytes == 0) (length d.bytes == 0) (ap (λ (l : List ℕ). length l == 0) same) (instruction k c) (instruction j d) (instruction_agrees c d same) movable

  pub program_by_bytes : (c d : Input) → c.bytes ≡ d.bytes → IsMovable (program k c) → program j d ≡ program k c
  program_by_bytes c d same movable =
      ap (λ (l : List ℕ). program_from (length l) j d) (sym same) ∙ from_bytes (length c.bytes) c d same movable
