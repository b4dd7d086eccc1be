-- What is read of an expression leaves its bytes from a further position on, and no reading counts operations.
use Rattle.std.proofs.Common.{◌≡◌, ◌≢◌, ℕ, zero, suc, ◌+◌, ◌-◌, ◌≤◌, Bool, true, false, List, length, drop, Result, Ok, Err, nat_lt, nat_le, ◌==◌, refl, ap, ◌∙◌, arith}
use Rattle.std.specs.Prelude.{if◌then◌else◌}
use Rattle.std.proofs.lemmas.List.{drop-drop, length-drop}
use Rattle.std.proofs.lemmas.Bool.{ltb-false}
use Rattle.std.specs.Int.{Width, w8, w16, w32, w64, byte_len}
use Rattle.unwind_definitions.specs.declared.error.Error.{Error as Fault}
use Rattle.unwind_definitions.specs.declared.error.Error.TheVariants.{UnexpectedEof, BadUnsignedLeb128, BadSignedLeb128, UnsupportedRegister, UnknownOperation, TooManyOperations}
use Rattle.unwind_definitions.specs.Faults.{◌>>=◌}
use Rattle.unwind_definitions.specs.Input.{Input, Reads, skip, number, uleb, uleb_from, sleb, sleb_from}
use Rattle.unwind_definitions.specs.Pointers.{signed_number}
use Rattle.unwind_definitions.specs.Instructions.{column}
use Rattle.unwind_definitions.specs.Operations.{Operation, says, with_operand, pushes_column, Load, loads, unknown, constant, rearrangement, arithmetic, decision, extension, operation_of, operation}
use Rattle.unwind_definitions.specs.Expressions.{rest_at}

-- a place in an expression
pub record IsPlace (expression : List ℕ) (c : Input) : Type 0 where
  pub here : c ≡ rest_at expression c.offset
  pub within : c.offset ≤ length expression

-- What holds of where a reading ends, if it gives a value. No fault of a reading tells of too many operations.
abbrev pub EndsIn : {A : Type 0} → (Input → Type 0) → Result (A × Input) Fault → Type 0
EndsIn P (Ok r) = P r.1
EndsIn P (Err e) = e ≢ TooManyOperations

-- what holds of a place holds of where a reader leads from it
pub record Keeps {A : Type 0} (P : Input → Type 0) (read : Reads A) : Type 0 where
  pub keeps : (c : Input) → P c → EndsIn P (read c)

eof_apart : UnexpectedEof ≢ TooManyOperations
eof_apart e = cc

unsigned_apart : BadUnsignedLeb128 ≢ TooManyOperations
unsigned_apart e = cc

signed_apart : BadSignedLeb128 ≢ TooManyOperations
signed_apart e = cc

register_apart : UnsupportedRegister ≢ TooManyOperations
register_apart e = cc

operation_apart : UnknownOperation ≢ TooManyOperations
operation_apart e = cc

skipped : (x : List ℕ) (c : Input) (n : ℕ) → IsPlace x c → n ≤ length c.bytes → IsPlace x (skip n c)
skipped x c n place h =
    let base : c.base ≡ 0 = ap (λ (i : Input). i.base) place.here in
    let bytes : drop n c.bytes ≡ drop (c.offset + n) x = ap (λ (i : Input). drop n i.bytes) place.here ∙ drop-drop n c.offset x in
    let long : length c.bytes ≡ length x - c.offset = ap (λ (i : Input). length i.bytes) place.here ∙ length-drop c.offset x in
    record { here = rw (base, bytes) refl; within = omega (arith, place.within) }

module _ (P : Input → Type 0) (skips : (c : Input) (n : ℕ) → P c → n ≤ length c.bytes → P (skip n c)) where
  chosen : {A : Type 0} (b : Bool) (r s : Result (A × Input) Fault) → EndsIn P r → EndsIn P s → EndsIn P (if b then r else s)
  chosen true r s h k = h
  chosen false r s h k = k

  then_read : {A B : Type 0} (r : Result (A × Input) Fault) (f : A × Input → Result (B × Input) Fault) → EndsIn P r → ((p : A × Input) → P p.1 → EndsIn P (f p)) → EndsIn P (r >>= f)
  then_read (Ok p) f h k = k p h
  then_read (Err e) f h k = h

  keeps-number : (w : Width) → Keeps P (number w)
  keeps-number w = record { keeps = λ c place. go c place (nat_lt (length c.bytes) (byte_len w)) refl }
    where
      go : (c : Input) → P c → (b : Bool) → nat_lt (length c.bytes) (byte_len w) ≡ b → EndsIn P (number w c)
      go c place true e = rw e eof_apart
      go c place false e = rw e (skips c (byte_len w) place (ltb-false (length c.bytes) (byte_len w) e))

  keeps-uleb_from : (n : ℕ) → Keeps P (uleb_from n)
  keeps-uleb_from zero = record { keeps = λ c place. unsigned_apart }
  keeps-uleb_from (suc zero) = record { keeps = λ c place. then_read (number w8 c) _ ((keeps-number w8).keeps c place) (λ b at. chosen (nat_le b.0 1) _ _ at unsigned_apart) }
  keeps-uleb_from (suc (suc n)) =
      let further = keeps-uleb_from (suc n) in
      record { keeps = λ c place. then_read (number w8 c) _ ((keeps-number w8).keeps c place) (λ b at. chosen (nat_lt b.0 128) _ _ at (then_read (uleb_from (suc n) b.1) _ (further.keeps b.1 at) (λ h at2. at2))) }

  keeps-uleb : Keeps P uleb
  keeps-uleb = record { keeps = (keeps-uleb_from 10).keeps }

  keeps-sleb_from : (n : ℕ) → Keeps P (sleb_from n)
  keeps-sleb_from zero = record { keeps = λ c place. signed_apart }
  keeps-sleb_from (suc zero) = record { keeps = λ c place. then_read (number w8 c) _ ((keeps-number w8).keeps c place) (λ b at. chosen (b.0 == 0) _ _ at (chosen (b.0 == 127) _ _ at signed_apart)) }
  keeps-sleb_from (suc (suc n)) =
      let further = keeps-sleb_from (suc n) in
      record { keeps = λ c place. then_read (number w8 c) _ ((keeps-number w8).keeps c place) (λ b at. chosen (nat_lt b.0 128) _ _ at (then_read (sleb_from (suc n) b.1) _ (further.keeps b.1 at) (λ h at2. at2))) }

  keeps-sleb : Keeps P sleb
  keeps-sleb = record { keeps = (keeps-sleb_from 10).keeps }

  keeps-signed_number : (w : Width) (bits : ℕ) → Keeps P (signed_number w bits)
  keeps-signed_number w bits = record { keeps = λ c place. then_read (number w c) _ ((keeps-number w).keeps c place) (λ n at. at) }

  keeps-column : Keeps P column
  keeps-column = record { keeps = λ c place. then_read (uleb c) _ (keeps-uleb.keeps c place) (λ r at. chosen (nat_le r.0 65535) _ _ at register_apart) }

  keeps-says : (o : Operation) → Keeps P (says o)
  keeps-says o = record { keeps = λ c place. place }

  keeps-unknown : Keeps P unknown
  keeps-unknown = record { keeps = λ c place. operation_apart }

  keeps-operand : (read : Reads ℕ) (o : ℕ → Operation) → Keeps P read → Keeps P (with_operand read o)
  keeps-operand read o k = record { keeps = λ c place. then_read (read c) _ (k.keeps c place) (λ n at. at) }

  keeps-pushes_column : Keeps P pushes_column
  keeps-pushes_column = record { keeps = λ c place. then_read (column c) _ (keeps-column.keeps c place) (λ r at. then_read (sleb r.1) _ (keeps-sleb.keeps r.1 at) (λ n at2. at2)) }

  loads_then : (b d : Bool) (o : Operation) (i : Input) → P i → EndsIn P ((if b then (if d then Ok o else Err UnknownOperation) else Err UnknownOperation) >>= λ p. Ok (p, i))
  loads_then true true o i at = at
  loads_then true false o i at = operation_apart
  loads_then false d o i at = operation_apart

  keeps-loads : Keeps P loads
  keeps-loads = record { keeps = λ c place. then_read (number w8 c) _ ((keeps-number w8).keeps c place) (λ n at. loads_then (nat_le 1 n.0) (nat_le n.0 8) (Load n.0) n.1 at) }

  keeps-if : (b : Bool) (r s : Reads Operation) → Keeps P r → Keeps P s → Keeps P (if b then r else s)
  keeps-if true r s h k = h
  keeps-if false r s h k = k

  keeps-constant : (op : ℕ) → Keeps P (constant op)
  unfolding constant
  keeps-constant op =
      keeps-if (op == 0x03) _ _ (keeps-operand _ _ (keeps-number w64))
      (keeps-if (op == 0x06) _ _ (keeps-says _)
      (keeps-if (op == 0x08) _ _ (keeps-operand _ _ (keeps-number w8))
      (keeps-if (op == 0x09) _ _ (keeps-operand _ _ (keeps-signed_number w8 8))
      (keeps-if (op == 0x0a) _ _ (keeps-operand _ _ (keeps-number w16))
      (keeps-if (op == 0x0b) _ _ (keeps-operand _ _ (keeps-signed_number w16 16))
      (keeps-if (op == 0x0c) _ _ (keeps-operand _ _ (keeps-number w32))
      (keeps-if (op == 0x0d) _ _ (keeps-operand _ _ (keeps-signed_number w32 32))
      (keeps-if (op == 0x0e) _ _ (keeps-operand _ _ (keeps-number w64))
      (keeps-if (op == 0x0f) _ _ (keeps-operand _ _ (keeps-number w64))
      (keeps-if (op == 0x10) _ _ (keeps-operand _ _ keeps-uleb)
      (keeps-if (op == 0x11) _ _ (keeps-operand _ _ keeps-sleb)
      (keeps-unknown))))))))))))

  keeps-rearrangement : (op : ℕ) → Keeps P (rearrangement op)
  unfolding rearrangement
  keeps-rearrangement op =
      keeps-if (op == 0x12) _ _ (keeps-says _)
      (keeps-if (op == 0x13) _ _ (keeps-says _)
      (keeps-if (op == 0x14) _ _ (keeps-says _)
      (keeps-if (op == 0x15) _ _ (keeps-operand _ _ (keeps-number w8))
      (keeps-if (op == 0x16) _ _ (keeps-says _)
      (keeps-if (op == 0x17) _ _ (keeps-says _)
      (keeps-unknown))))))

  keeps-arithmetic : (op : ℕ) → Keeps P (arithmetic op)
  unfolding arithmetic
  keeps-arithmetic op =
      keeps-if (op == 0x19) _ _ (keeps-says _)
      (keeps-if (op == 0x1a) _ _ (keeps-says _)
      (keeps-if (op == 0x1b) _ _ (keeps-says _)
      (keeps-if (op == 0x1c) _ _ (keeps-says _)
      (keeps-if (op == 0x1d) _ _ (keeps-says _)
      (keeps-if (op == 0x1e) _ _ (keeps-says _)
      (keeps-if (op == 0x1f) _ _ (keeps-says _)
      (keeps-if (op == 0x20) _ _ (keeps-says _)
      (keeps-if (op == 0x21) _ _ (keeps-says _)
      (keeps-if (op == 0x22) _ _ (keeps-says _)
      (keeps-if (op == 0x23) _ _ (keeps-operand _ _ keeps-uleb)
      (keeps-if (op == 0x24) _ _ (keeps-says _)
      (keeps-if (op == 0x25) _ _ (keeps-says _)
      (keeps-if (op == 0x26) _ _ (keeps-says _)
      (keeps-if (op == 0x27) _ _ (keeps-says _)
      (keeps-unknown)))))))))))))))

  keeps-decision : (op : ℕ) → Keeps P (decision op)
  unfolding decision
  keeps-decision op =
      keeps-if (op == 0x28) _ _ (keeps-operand _ _ (keeps-signed_number w16 16))
      (keeps-if (op == 0x29) _ _ (keeps-says _)
      (keeps-if (op == 0x2a) _ _ (keeps-says _)
      (keeps-if (op == 0x2b) _ _ (keeps-says _)
      (keeps-if (op == 0x2c) _ _ (keeps-says _)
      (keeps-if (op == 0x2d) _ _ (keeps-says _)
      (keeps-if (op == 0x2e) _ _ (keeps-says _)
      (keeps-operand _ _ (keeps-signed_number w16 16))))))))

  keeps-extension : (op : ℕ) → Keeps P (extension op)
  unfolding extension
  keeps-extension op =
      keeps-if (op == 0x92) _ _ (keeps-pushes_column)
      (keeps-if (op == 0x94) _ _ (keeps-loads)
      (keeps-if (op == 0x96) _ _ (keeps-says _)
      (keeps-unknown)))

  keeps-operation_of : (op : ℕ) → Keeps P (operation_of op)
  unfolding operation_of
  keeps-operation_of op =
      keeps-if (nat_lt op 0x12) _ _ (keeps-constant op)
      (keeps-if (nat_lt op 0x19) _ _ (keeps-rearrangement op)
      (keeps-if (nat_lt op 0x28) _ _ (keeps-arithmetic op)
      (keeps-if (nat_lt op 0x30) _ _ (keeps-decision op)
      (keeps-if (nat_lt op 0x50) _ _ (keeps-says _)
      (keeps-if (nat_lt op 0x70) _ _ (keeps-unknown)
      (keeps-if (nat_lt op 0x90) _ _ (keeps-operand _ _ keeps-sleb)
      (keeps-extension op)))))))

  keeps-operation : Keeps P operation
  keeps-operation = record { keeps = λ c place. then_read (number w8 c) _ ((keeps-number w8).keeps c place) (λ b at. (keeps-operation_of b.0).keeps b.1 at) }

-- an operation leads from a place to one
pub operation_within : (x : List ℕ) (c d : Input) (o : Operation) → IsPlace x c → operation c ≡ Ok (o, d) → IsPlace x d
operation_within x c d o place e = rw e at ((keeps-operation (IsPlace x) (skipped x)).keeps c place)

-- and what stops it isn't the number of operations
pub operation_counts_none : (c : Input) (f : Fault) → operation c ≡ Err f → f ≢ TooManyOperations
operation_counts_none c f e = rw e at ((keeps-operation (λ i. Unit {0}) (λ i n h k. tt)).keeps c tt)
