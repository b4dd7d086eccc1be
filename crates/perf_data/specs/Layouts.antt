-- What an event's attribute says of the layout of its samples. Linux's `struct perf_event_attr`, which begins with type, size,
-- config, the period, sample_type and read_format; it has grown, and what an older one lacks is 0. In the file the section of
-- its identifiers follows it, in 16 bytes.
use Rattle.std.specs.Prelude.{ℕ, zero, suc, ◌+◌, ◌==◌, ◌&&◌, Bool, true, false, List, length, take, drop, Option, Some, None, nat_le, if◌then◌else◌, bit_and}
use Rattle.memory_image.specs.Words.{u32_at, u64_at}
use Rattle.perf_data.specs.declared.layout.Layout.{Layout}

-- the size of the first version of an attribute with the section after it
abbrev pub least_attribute_size : ℕ
least_attribute_size = 80

-- a word of an attribute with its section, 0 where the attribute ends before it
abbrev pub later_word_at : List ℕ → ℕ → ℕ
later_word_at entry place = if nat_le (place + 24) (length entry) then u64_at entry place else 0

abbrev pub layout_of : List ℕ → Layout
layout_of entry = record {
  size = u32_at entry 4;
  sample_type = u64_at entry 24;
  read_format = u64_at entry 32;
  branch_sample_type = later_word_at entry 72;
  sample_regs_user = later_word_at entry 80;
}

abbrev pub is_same_layout : Layout → Layout → Bool
is_same_layout a b =
    (a.size == b.size) && (a.sample_type == b.sample_type) && (a.read_format == b.read_format) && (a.branch_sample_type == b.branch_sample_type)
    && (a.sample_regs_user == b.sample_regs_user)

-- the layout that the first of these attributes tells, where it has the size that the header tells
abbrev pub first_layout : ℕ → List ℕ → Option Layout
first_layout size attributes =
    if nat_le least_attribute_size size && nat_le size (length attributes) then
    (if u32_at attributes 4 + 16 == size then Some (layout_of (take size attributes)) else None)
    else None

-- so many attributes at most, of this size each, tell this layout
abbrev pub share_from : ℕ → Layout → ℕ → List ℕ → Bool
share_from zero layout size attributes = true
share_from (suc most) layout size attributes =
    if nat_le size (length attributes) then
    (if is_same_layout (layout_of (take size attributes)) layout then share_from most layout size (drop size attributes) else false)
    else true

-- all attributes tell this layout; an attribute has more than one byte
unfoldable pub share_layout : Layout → ℕ → List ℕ → Bool
share_layout layout size attributes = share_from (length attributes) layout size attributes

-- the bits of a number that are set in a mask
abbrev pub has_bits : ℕ → ℕ → Bool
has_bits n mask = if bit_and n mask == 0 then false else true

-- The registers of the user in samples are those of a machine of another kind than x86. Linux's arch/x86/include/uapi/asm/perf_regs.h has
-- none with a number from 24 to 31: R15 is the last, and XMM0 the first one after these.
abbrev pub is_of_other_machine : Layout → Bool
is_of_other_machine layout = has_bits layout.sample_regs_user 0xff000000
