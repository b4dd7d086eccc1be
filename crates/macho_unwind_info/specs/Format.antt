-- The records of a section of compact unwinding, as they lie in its bytes, and where they lie.
use Rattle.std.specs.Prelude.{◌≡◌, ℕ, ◌+◌, ◌*◌, List, length, take, drop, Option, Some, None, nat_le, if◌then◌else◌}
use Rattle.std.proofs.Common.{ap, ◌∙◌, sym, arith}
use Rattle.std.proofs.lemmas.List.{drop_all, drop-drop, take-append-drop}
use Rattle.memory_image.specs.Words.{AreBytes}
use Rattle.memory_image.specs.Records.{records_in}
use Rattle.macho_unwind_info.specs.Unaligned.{u32_at, u16_at, u32_in, u32_keeps_all}
use Rattle.macho_unwind_info.specs.declared.raw.format.CompactUnwindInfoHeader.{CompactUnwindInfoHeader}
use Rattle.macho_unwind_info.specs.declared.raw.format.PageEntry.{PageEntry}
use Rattle.macho_unwind_info.specs.declared.raw.format.RegularPage.{RegularPage}
use Rattle.macho_unwind_info.specs.declared.raw.format.CompressedPage.{CompressedPage}
use Rattle.macho_unwind_info.specs.declared.raw.format.Opcode.{Opcode}
use Rattle.macho_unwind_info.specs.declared.raw.format.RegularFunctionEntry.{RegularFunctionEntry}
use Rattle.macho_unwind_info.specs.declared.raw.format.LsdaEntry.{LsdaEntry}

-- a record at an offset of some bytes, in which it must fit
abbrev pub record_at : {T : Type 0} → ℕ → (List ℕ → T) → List ℕ → ℕ → Option T
record_at size value_of bytes offset =
    if nat_le (offset + size) (length bytes) then Some (value_of (take size (drop offset bytes))) else None

-- so many records from an offset on, which must fit
abbrev pub records_at : {T : Type 0} → ℕ → (List ℕ → T) → List ℕ → ℕ → ℕ → Option (List T)
records_at size value_of bytes offset count =
    if nat_le (offset + count * size) (length bytes) then Some (records_in size value_of (drop offset bytes) count) else None

-- ---- what the bytes of each record spell
abbrev pub header_in : List ℕ → CompactUnwindInfoHeader
header_in bytes = record {
  version = u32_at 0 bytes;
  global_opcodes_offset = u32_at 4 bytes;
  global_opcodes_len = u32_at 8 bytes;
  personalities_offset = u32_at 12 bytes;
  personalities_len = u32_at 16 bytes;
  pages_offset = u32_at 20 bytes;
  pages_len = u32_at 24 bytes;
}

abbrev pub page_entry_in : List ℕ → PageEntry
page_entry_in bytes = record { first_address = u32_at 0 bytes; page_offset = u32_at 4 bytes; lsda_index_offset = u32_at 8 bytes }

abbrev pub regular_page_in : List ℕ → RegularPage
regular_page_in bytes = record { kind = u32_at 0 bytes; functions_offset = u16_at 4 bytes; functions_len = u16_at 6 bytes }

abbrev pub compressed_page_in : List ℕ → CompressedPage
compressed_page_in bytes = record {
  kind = u32_at 0 bytes;
  functions_offset = u16_at 4 bytes;
  functions_len = u16_at 6 bytes;
  local_opcodes_offset = u16_at 8 bytes;
  local_opcodes_len = u16_at 10 bytes;
}

abbrev pub opcode_in : List ℕ → Opcode
opcode_in bytes = record { 0 = u32_in bytes }

abbrev pub function_entry_in : List ℕ → RegularFunctionEntry
function_entry_in bytes = record { address = u32_at 0 bytes; opcode = record { 0 = u32_at 4 bytes } }

abbrev pub lsda_entry_in : List ℕ → LsdaEntry
lsda_entry_in bytes = record { address = u32_at 0 bytes; lsda_offset = u32_at 4 bytes }

-- ---- equal records have equal bytes
-- bytes that agree on a field and after it agree from the field on
same_from_field : (xs ys : List ℕ) (k n : ℕ) → take n (drop k xs) ≡ take n (drop k ys) → drop (k + n) xs ≡ drop (k + n) ys → drop k xs ≡ drop k ys
same_from_field xs ys k n field after =
    sym (take-append-drop n (drop k xs)) ∙ rw (field, drop-drop n k xs, after, ← drop-drop n k ys) (take-append-drop n (drop k ys))

same_ends : (xs ys : List ℕ) (n : ℕ) → length xs ≡ n → length ys ≡ n → drop n xs ≡ drop n ys
same_ends xs ys n m l = drop_all n xs (omega arith) ∙ sym (drop_all n ys (omega arith))

pub header_keeps_all : (xs ys : List ℕ) → length xs ≡ 28 → length ys ≡ 28 → AreBytes xs → AreBytes ys → header_in xs ≡ header_in ys → xs ≡ ys
header_keeps_all xs ys m n b c e =
    same_from_field xs ys 0 4 (ap (λ (h : CompactUnwindInfoHeader). h.version.0) e)
    (same_from_field xs ys 4 4 (ap (λ (h : CompactUnwindInfoHeader). h.global_opcodes_offset.0) e)
    (same_from_field xs ys 8 4 (ap (λ (h : CompactUnwindInfoHeader). h.global_opcodes_len.0) e)
    (same_from_field xs ys 12 4 (ap (λ (h : CompactUnwindInfoHeader). h.personalities_offset.0) e)
    (same_from_field xs ys 16 4 (ap (λ (h : CompactUnwindInfoHeader). h.personalities_len.0) e)
    (same_from_field xs ys 20 4 (ap (λ (h : CompactUnwindInfoHeader). h.pages_offset.0) e)
    (same_from_field xs ys 24 4 (ap (λ (h : CompactUnwindInfoHeader). h.pages_len.0) e)
    (same_ends xs ys 28 m n)))))))

pub page_entry_keeps_all : (xs ys : List ℕ) → length xs ≡ 12 → length ys ≡ 12 → AreBytes xs → AreBytes ys → page_entry_in xs ≡ page_entry_in ys → xs ≡ ys
page_entry_keeps_all xs ys m n b c e =
    same_from_field xs ys 0 4 (ap (λ (p : PageEntry). p.first_address.0) e)
    (same_from_field xs ys 4 4 (ap (λ (p : PageEntry). p.page_offset.0) e)
    (same_from_field xs ys 8 4 (ap (λ (p : PageEntry). p.lsda_index_offset.0) e)
    (same_ends xs ys 12 m n)))

pub regular_page_keeps_all : (xs ys : List ℕ) → length xs ≡ 8 → length ys ≡ 8 → AreBytes xs → AreBytes ys → regular_page_in xs ≡ regular_page_in ys → xs ≡ ys
regular_page_keeps_all xs ys m n b c e =
    same_from_field xs ys 0 4 (ap (λ (p : RegularPage). p.kind.0) e)
    (same_from_field xs ys 4 2 (ap (λ (p : RegularPage). p.functions_offset.0) e)
    (same_from_field xs ys 6 2 (ap (λ (p : RegularPage). p.functions_len.0) e)
    (same_ends xs ys 8 m n)))

pub compressed_page_keeps_all : (xs ys : List ℕ) → length xs ≡ 12 → length ys ≡ 12 → AreBytes xs → AreBytes ys → compressed_page_in xs ≡ compressed_page_in ys → xs ≡ ys
compressed_page_keeps_all xs ys m n b c e =
    same_from_field xs ys 0 4 (ap (λ (p : CompressedPage). p.kind.0) e)
    (same_from_field xs ys 4 2 (ap (λ (p : CompressedPage). p.functions_offset.0) e)
    (same_from_field xs ys 6 2 (ap (λ (p : CompressedPage). p.functions_len.0) e)
    (same_from_field xs ys 8 2 (ap (λ (p : CompressedPage). p.local_opcodes_offset.0) e)
    (same_from_field xs ys 10 2 (ap (λ (p : CompressedPage). p.local_opcodes_len.0) e)
    (same_ends xs ys 12 m n)))))

pub opcode_keeps_all : (xs ys : List ℕ) → length xs ≡ 4 → length ys ≡ 4 → AreBytes xs → AreBytes ys → opcode_in xs ≡ opcode_in ys → xs ≡ ys
opcode_keeps_all xs ys m n b c e = u32_keeps_all xs ys m n b c (ap (λ (o : Opcode). o.0) e)

pub function_entry_keeps_all : (xs ys : List ℕ) → length xs ≡ 8 → length ys ≡ 8 → AreBytes xs → AreBytes ys → function_entry_in xs ≡ function_entry_in ys → xs ≡ ys
function_entry_keeps_all xs ys m n b c e =
    same_from_field xs ys 0 4 (ap (λ (f : RegularFunctionEntry). f.address.0) e)
    (same_from_field xs ys 4 4 (ap (λ (f : RegularFunctionEntry). f.opcode.0.0) e)
    (same_ends xs ys 8 m n))

pub lsda_entry_keeps_all : (xs ys : List ℕ) → length xs ≡ 8 → length ys ≡ 8 → AreBytes xs → AreBytes ys → lsda_entry_in xs ≡ lsda_entry_in ys → xs ≡ ys
lsda_entry_keeps_all xs ys m n b c e =
    same_from_field xs ys 0 4 (ap (λ (l : LsdaEntry). l.address.0) e)
    (same_from_field xs ys 4 4 (ap (λ (l : LsdaEntry). l.lsda_offset.0) e)
    (same_ends xs ys 8 m n))
