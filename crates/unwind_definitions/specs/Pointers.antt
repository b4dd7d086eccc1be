-- Pointers in call frame bytes: an encoding byte says the format, what the value is relative to, and whether it is the
-- address of the pointer. LSB, section on DWARF exception header encoding.
use Rattle.std.specs.Prelude.{ℕ, ◌+◌, ◌*◌, ◌/◌, ◌%◌, ◌^◌, Bool, ◌&&◌, ◌||◌, Option, Some, None, Result, Ok, Err, nat_lt, nat_le, ◌==◌, if◌then◌else◌}
use Rattle.std.specs.Int.{Width, w8, w16, w32, w64}
use Rattle.unwind_definitions.specs.Faults.{Fault, UnsupportedPointerEncoding, UndefinedBase, CannotParseOmitPointerEncoding, UnknownPointerEncoding, ◌>>=◌, unless}
use Rattle.unwind_definitions.specs.Input.{Reads, address_of, number, signed_word, uleb, sleb}
use Rattle.unwind_definitions.specs.PointerEncodings.{DW_EH_PE_absptr, DW_EH_PE_uleb128, DW_EH_PE_udata2, DW_EH_PE_udata4, DW_EH_PE_udata8, DW_EH_PE_sleb128, DW_EH_PE_sdata2, DW_EH_PE_sdata4, DW_EH_PE_sdata8, DW_EH_PE_pcrel, DW_EH_PE_textrel, DW_EH_PE_datarel, DW_EH_PE_funcrel, DW_EH_PE_aligned, DW_EH_PE_indirect, DW_EH_PE_omit}

-- what a pointer may be relative to
pub record Bases : Type 0 where
  pub text : Option ℕ
  pub data_base : Option ℕ
  pub func : Option ℕ
  pub hdr : Option ℕ
  pub frame : Option ℕ

pub data Pointer : Type 0 where
  Direct Indirect : ℕ → Pointer

-- the low four bits
abbrev pub format_of : ℕ → ℕ
format_of e = e % 16

-- the bits 0x70
abbrev pub application_of : ℕ → ℕ
application_of e = 16 * ((e / 16) % 8)

abbrev pub is_indirect : ℕ → Bool
is_indirect e = nat_le DW_EH_PE_indirect e && nat_lt e DW_EH_PE_omit

abbrev pub is_known : ℕ → Bool
is_known e =
    (e == DW_EH_PE_omit)
    || ((nat_le (format_of e) DW_EH_PE_udata8 || (nat_le DW_EH_PE_sleb128 (format_of e) && nat_le (format_of e) DW_EH_PE_sdata8))
    && nat_le (application_of e) DW_EH_PE_aligned)

-- an encoding byte
abbrev pub encoding : Reads ℕ
encoding c = do
  e ← number w8 c
  if is_known e.0 then Ok e else Err UnknownPointerEncoding

abbrev pub signed_number : Width → ℕ → Reads ℕ
signed_number w bits c = do
  n ← number w c
  Ok (signed_word bits n.0, n.1)

-- the number of a format; what is left is DW_EH_PE_sdata8
abbrev pub value : ℕ → Reads ℕ
value format =
    if format == DW_EH_PE_absptr then number w64
    else (if format == DW_EH_PE_uleb128 then uleb
    else (if format == DW_EH_PE_udata2 then number w16
    else (if format == DW_EH_PE_udata4 then number w32
    else (if format == DW_EH_PE_udata8 then number w64
    else (if format == DW_EH_PE_sleb128 then sleb
    else (if format == DW_EH_PE_sdata2 then signed_number w16 16
    else (if format == DW_EH_PE_sdata4 then signed_number w32 32
    else number w64)))))))

abbrev pub base_if_known : Option ℕ → Result ℕ Fault
base_if_known None = Err UndefinedBase
base_if_known (Some base) = Ok base

-- What an application adds, for a pointer whose first byte is at an address: nothing, that address, the text, the data
-- or the function. An aligned pointer isn't read.
abbrev pub base_of : Bases → ℕ → ℕ → Result ℕ Fault
base_of bases at application =
    if application == DW_EH_PE_absptr then Ok 0
    else (if application == DW_EH_PE_pcrel then Ok at
    else (if application == DW_EH_PE_textrel then base_if_known bases.text
    else (if application == DW_EH_PE_datarel then base_if_known bases.data_base
    else (if application == DW_EH_PE_funcrel then base_if_known bases.func
    else Err UnsupportedPointerEncoding))))

abbrev pub pointer : ℕ → Bases → Reads Pointer
pointer e bases c = if e == DW_EH_PE_omit then Err CannotParseOmitPointerEncoding else (do
  _ ← unless (is_known e) UnknownPointerEncoding
  base ← base_of bases (address_of c) (application_of e)
  n ← value (format_of e) c
  Ok ((if is_indirect e then Indirect ((base + n.0) % 2 ^ 64) else Direct ((base + n.0) % 2 ^ 64)), n.1))

abbrev pub direct_target : Pointer → Result ℕ Fault
direct_target (Direct a) = Ok a
direct_target (Indirect a) = Err UnsupportedPointerEncoding

-- a pointer that must not be indirect, which shows once it is read
abbrev pub direct : ℕ → Bases → Reads ℕ
direct e bases c = do
  p ← pointer e bases c
  a ← direct_target p.0
  Ok (a, p.1)
