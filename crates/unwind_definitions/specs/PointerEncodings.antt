-- The bytes that say how a pointer is encoded, by their names. LSB, section on DWARF exception header encoding.
use Rattle.std.specs.Prelude.{ℕ, ◌+◌}

-- formats: a word, an unsigned LEB128 number, two, four and eight bytes, a signed LEB128 number, and signed ones
abbrev pub DW_EH_PE_absptr : ℕ
DW_EH_PE_absptr = 0x00

abbrev pub DW_EH_PE_uleb128 : ℕ
DW_EH_PE_uleb128 = 0x01

abbrev pub DW_EH_PE_udata2 : ℕ
DW_EH_PE_udata2 = 0x02

abbrev pub DW_EH_PE_udata4 : ℕ
DW_EH_PE_udata4 = 0x03

abbrev pub DW_EH_PE_udata8 : ℕ
DW_EH_PE_udata8 = 0x04

abbrev pub DW_EH_PE_sleb128 : ℕ
DW_EH_PE_sleb128 = 0x09

abbrev pub DW_EH_PE_sdata2 : ℕ
DW_EH_PE_sdata2 = 0x0a

abbrev pub DW_EH_PE_sdata4 : ℕ
DW_EH_PE_sdata4 = 0x0b

abbrev pub DW_EH_PE_sdata8 : ℕ
DW_EH_PE_sdata8 = 0x0c

-- applications: relative to the pointer's own place, to the text, to the data, to the function; and an aligned word
abbrev pub DW_EH_PE_pcrel : ℕ
DW_EH_PE_pcrel = 0x10

abbrev pub DW_EH_PE_textrel : ℕ
DW_EH_PE_textrel = 0x20

abbrev pub DW_EH_PE_datarel : ℕ
DW_EH_PE_datarel = 0x30

abbrev pub DW_EH_PE_funcrel : ℕ
DW_EH_PE_funcrel = 0x40

abbrev pub DW_EH_PE_aligned : ℕ
DW_EH_PE_aligned = 0x50

-- the value is the address of the pointer
abbrev pub DW_EH_PE_indirect : ℕ
DW_EH_PE_indirect = 0x80

-- there is no pointer
abbrev pub DW_EH_PE_omit : ℕ
DW_EH_PE_omit = 0xff

-- Those that compilers and linkers emit: four signed bytes from the pointer's own place, or from the data, or from the place
-- to a cell that holds the pointer.
abbrev pub pcrel_sdata4 : ℕ
pcrel_sdata4 = DW_EH_PE_pcrel + DW_EH_PE_sdata4

abbrev pub datarel_sdata4 : ℕ
datarel_sdata4 = DW_EH_PE_datarel + DW_EH_PE_sdata4

abbrev pub indirect_pcrel_sdata4 : ℕ
indirect_pcrel_sdata4 = DW_EH_PE_indirect + pcrel_sdata4
