-- The operations of expressions, decoded from their bytes, and what they do with words. DWARF 5 sections 2.5 and 7.7.1.
use Rattle.std.specs.Prelude.{ℕ, ◌+◌, ◌-◌, ◌*◌, ◌/◌, ◌%◌, ◌^◌, min, Result, Ok, Err, nat_lt, nat_le, ◌==◌, not, int_lt, unsigned_abs, bit_and, bit_or, bit_xor, if◌then◌else◌}
use Rattle.std.specs.Int.{w8, w16, w32, w64, cast_signed, cast_unsigned, from_bool, bit_not, int_wrapping_div, int_shr}
use Rattle.unwind_definitions.specs.Faults.{Fault, UnknownOperation, ◌>>=◌}
use Rattle.unwind_definitions.specs.Input.{Reads, number, uleb, sleb}
use Rattle.unwind_definitions.specs.Pointers.{signed_number}
use Rattle.unwind_definitions.specs.Instructions.{column}
use Rattle.unwind_definitions.specs.Caller.{◌+w◌}
use Rattle.unwind_definitions.specs.ExpressionOpcodes.{DW_OP_addr, DW_OP_deref, DW_OP_const1u, DW_OP_const1s, DW_OP_const2u, DW_OP_const2s, DW_OP_const4u, DW_OP_const4s, DW_OP_const8u, DW_OP_const8s, DW_OP_constu, DW_OP_consts, DW_OP_dup, DW_OP_drop, DW_OP_over, DW_OP_pick, DW_OP_swap, DW_OP_rot, DW_OP_abs, DW_OP_and, DW_OP_div, DW_OP_minus, DW_OP_mod, DW_OP_mul, DW_OP_neg, DW_OP_not, DW_OP_or, DW_OP_plus, DW_OP_plus_uconst, DW_OP_shl, DW_OP_shr, DW_OP_shra, DW_OP_xor, DW_OP_bra, DW_OP_eq, DW_OP_ge, DW_OP_gt, DW_OP_le, DW_OP_lt, DW_OP_ne, DW_OP_regx, DW_OP_bregx, DW_OP_deref_size, DW_OP_nop, DW_OP_lit0, DW_OP_reg0, DW_OP_breg0}

-- What one operation says. Words and distances below 0 count from 2 ^ 64.
pub data Operation : Type 0 where
  Nop Pop Swap Rotate : Operation
  Push : ℕ → Operation
  -- pushes what a column holds and a number
  PushColumn : ℕ → ℕ → Operation
  -- pushes the word that stands so many below the top
  Pick : ℕ → Operation
  -- puts the number of so many bytes in the place of its address
  Load : ℕ → Operation
  -- puts another word in the place of the top
  Change : (ℕ → ℕ) → Operation
  -- puts one word in the place of the second and the top, or a quotient, where the top must not be 0
  Combine Divide : (ℕ → ℕ → ℕ) → Operation
  -- goes on so many bytes further, always or where the top isn't 0
  Skip Branch : ℕ → Operation

-- ---- what is done with words: of two, the second comes first and then the top

abbrev pub negation : ℕ → ℕ
negation a = (2 ^ 64 - a) % 2 ^ 64

abbrev pub magnitude : ℕ → ℕ
magnitude a = unsigned_abs (cast_signed w64 a)

abbrev pub difference : ℕ → ℕ → ℕ
difference a b = (a + (2 ^ 64 - b)) % 2 ^ 64

abbrev pub product : ℕ → ℕ → ℕ
product a b = (a * b) % 2 ^ 64

-- of signed numbers, rounded to 0
abbrev pub quotient : ℕ → ℕ → ℕ
quotient a b = cast_unsigned w64 (int_wrapping_div w64 (cast_signed w64 a) (cast_signed w64 b))

abbrev pub remainder : ℕ → ℕ → ℕ
remainder a b = a % b

abbrev pub shifted_left : ℕ → ℕ → ℕ
shifted_left a b = if nat_lt b 64 then (a * 2 ^ b) % 2 ^ 64 else 0

abbrev pub shifted_right : ℕ → ℕ → ℕ
shifted_right a b = if nat_lt b 64 then a / 2 ^ b else 0

-- a shift that keeps the sign, which is all that is left from 63 places on
abbrev pub shifted_signed : ℕ → ℕ → ℕ
shifted_signed a b = cast_unsigned w64 (int_shr (cast_signed w64 a) (min b 63))

-- 1 or 0
abbrev pub is_equal : ℕ → ℕ → ℕ
is_equal a b = from_bool (a == b)

abbrev pub is_unequal : ℕ → ℕ → ℕ
is_unequal a b = from_bool (not (a == b))

-- of signed numbers
abbrev pub is_less : ℕ → ℕ → ℕ
is_less a b = from_bool (int_lt (cast_signed w64 a) (cast_signed w64 b))

abbrev pub is_at_least : ℕ → ℕ → ℕ
is_at_least a b = from_bool (not (int_lt (cast_signed w64 a) (cast_signed w64 b)))

-- ---- how operations are spelled

abbrev pub says : Operation → Reads Operation
says operation c = Ok (operation, c)

abbrev pub with_operand : Reads ℕ → (ℕ → Operation) → Reads Operation
with_operand read operation c = do
  n ← read c
  Ok (operation n.0, n.1)

-- a register as an unsigned LEB128 number, and a signed number
abbrev pub pushes_column : Reads Operation
pushes_column c = do
  r ← column c
  n ← sleb r.1
  Ok (PushColumn r.0 n.0, n.1)

-- the number of 1 to 8 bytes at an address
abbrev pub load_of : ℕ → Result Operation Fault
load_of n = if nat_le 1 n then (if nat_le n 8 then Ok (Load n) else Err UnknownOperation) else Err UnknownOperation

abbrev pub loads : Reads Operation
loads c = do
  n ← number w8 c
  operation ← load_of n.0
  Ok (operation, n.1)

abbrev pub unknown : Reads Operation
unknown c = Err UnknownOperation

-- before DW_OP_dup
unfoldable pub constant : ℕ → Reads Operation
constant op =
    if op == DW_OP_addr then with_operand (number w64) Push
    else (if op == DW_OP_deref then says (Load 8)
    else (if op == DW_OP_const1u then with_operand (number w8) Push
    else (if op == DW_OP_const1s then with_operand (signed_number w8 8) Push
    else (if op == DW_OP_const2u then with_operand (number w16) Push
    else (if op == DW_OP_const2s then with_operand (signed_number w16 16) Push
    else (if op == DW_OP_const4u then with_operand (number w32) Push
    else (if op == DW_OP_const4s then with_operand (signed_number w32 32) Push
    else (if op == DW_OP_const8u then with_operand (number w64) Push
    else (if op == DW_OP_const8s then with_operand (number w64) Push
    else (if op == DW_OP_constu then with_operand uleb Push
    else (if op == DW_OP_consts then with_operand sleb Push
    else unknown)))))))))))

-- from DW_OP_dup to before DW_OP_abs
unfoldable pub rearrangement : ℕ → Reads Operation
rearrangement op =
    if op == DW_OP_dup then says (Pick 0)
    else (if op == DW_OP_drop then says Pop
    else (if op == DW_OP_over then says (Pick 1)
    else (if op == DW_OP_pick then with_operand (number w8) Pick
    else (if op == DW_OP_swap then says Swap
    else (if op == DW_OP_rot then says Rotate
    else unknown)))))

-- from DW_OP_abs to before DW_OP_bra
unfoldable pub arithmetic : ℕ → Reads Operation
arithmetic op =
    if op == DW_OP_abs then says (Change magnitude)
    else (if op == DW_OP_and then says (Combine bit_and)
    else (if op == DW_OP_div then says (Divide quotient)
    else (if op == DW_OP_minus then says (Combine difference)
    else (if op == DW_OP_mod then says (Divide remainder)
    else (if op == DW_OP_mul then says (Combine product)
    else (if op == DW_OP_neg then says (Change negation)
    else (if op == DW_OP_not then says (Change (bit_not w64))
    else (if op == DW_OP_or then says (Combine bit_or)
    else (if op == DW_OP_plus then says (Combine ◌+w◌)
    else (if op == DW_OP_plus_uconst then with_operand uleb (λ n. Change (λ a. a +w n))
    else (if op == DW_OP_shl then says (Combine shifted_left)
    else (if op == DW_OP_shr then says (Combine shifted_right)
    else (if op == DW_OP_shra then says (Combine shifted_signed)
    else (if op == DW_OP_xor then says (Combine bit_xor)
    else unknown))))))))))))))

-- from DW_OP_bra to before DW_OP_lit0
unfoldable pub decision : ℕ → Reads Operation
decision op =
    if op == DW_OP_bra then with_operand (signed_number w16 16) Branch
    else (if op == DW_OP_eq then says (Combine is_equal)
    else (if op == DW_OP_ge then says (Combine is_at_least)
    else (if op == DW_OP_gt then says (Combine (λ a b. is_less b a))
    else (if op == DW_OP_le then says (Combine (λ a b. is_at_least b a))
    else (if op == DW_OP_lt then says (Combine is_less)
    else (if op == DW_OP_ne then says (Combine is_unequal)
    else with_operand (signed_number w16 16) Skip))))))

-- from DW_OP_regx on
unfoldable pub extension : ℕ → Reads Operation
extension op =
    if op == DW_OP_bregx then pushes_column
    else (if op == DW_OP_deref_size then loads
    else (if op == DW_OP_nop then says Nop
    else unknown))

-- the operation of a first byte; the literals 0 to 31 stand from DW_OP_lit0, and registers 0 to 31 from
-- DW_OP_breg0
unfoldable pub operation_of : ℕ → Reads Operation
operation_of op =
    if nat_lt op DW_OP_dup then constant op
    else (if nat_lt op DW_OP_abs then rearrangement op
    else (if nat_lt op DW_OP_bra then arithmetic op
    else (if nat_lt op DW_OP_lit0 then decision op
    else (if nat_lt op DW_OP_reg0 then says (Push (op - DW_OP_lit0))
    else (if nat_lt op DW_OP_breg0 then unknown
    else (if nat_lt op DW_OP_regx then with_operand sleb (PushColumn (op - DW_OP_breg0))
    else extension op))))))

abbrev pub operation : Reads Operation
operation c = do
  b ← number w8 c
  operation_of b.0 b.1
