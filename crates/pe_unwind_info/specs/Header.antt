-- The first four bytes of an unwind record.
use Rattle.std.specs.Prelude.{ℕ, ◌*◌, ◌/◌, ◌%◌, Bool, Option, Some, None, ◌==◌, if◌then◌else◌}
use Rattle.pe_unwind_info.specs.declared.x86_64.registers.Register.{Register}
use Rattle.pe_unwind_info.specs.declared.x86_64.registers.Register.TheVariants.{RSP}
use Rattle.pe_unwind_info.specs.declared.x86_64.unwind_info.UnwindInfoHeader.{UnwindInfoHeader}
use Rattle.pe_unwind_info.specs.Registers.{register_of}

-- the version, in the low three bits, and the flags above it
abbrev pub version_of : UnwindInfoHeader → ℕ
version_of header = header.version_and_flags % 8

abbrev pub flags_of : UnwindInfoHeader → ℕ
flags_of header = header.version_and_flags / 8

-- a flag is set
abbrev pub has_flag : ℕ → UnwindInfoHeader → Bool
has_flag flag header = flags_of header / flag % 2 == 1

-- the frame register's number, 0 where there is none, and how far it is above the stack pointer that it was set from
abbrev pub frame_number : UnwindInfoHeader → ℕ
frame_number header = header.frame_register_and_offset % 16

abbrev pub frame_units : UnwindInfoHeader → ℕ
frame_units header = header.frame_register_and_offset / 16

abbrev pub frame_distance : UnwindInfoHeader → ℕ
frame_distance header = 16 * frame_units header

abbrev pub frame_register_of : UnwindInfoHeader → Option Register
frame_register_of header = if frame_number header == 0 then None else Some (register_of (frame_number header))

-- the register that offsets into the frame count from, and how far below it they begin
abbrev pub base_register : UnwindInfoHeader → Register
base_register header = if frame_number header == 0 then RSP else register_of (frame_number header)

abbrev pub base_distance : UnwindInfoHeader → ℕ
base_distance header = if frame_number header == 0 then 0 else frame_distance header
