-- Where the data of a record's handler stands.
use Rattle.std.specs.Prelude.{ℕ, ◌+◌, ◌*◌, ◌%◌, Bool, ◌||◌, Option, Some, None}
use Rattle.pe_unwind_info.specs.declared.x86_64.unwind_info.UnwindInfoHeader.{UnwindInfoHeader}
use Rattle.pe_unwind_info.specs.Header.{has_flag}
use Rattle.pe_unwind_info.specs.Info.{Info, Trailer, OnException, OnTermination, ChainedTo, trailer_of}

-- the flags for exceptions and for termination say that a record names a handler
abbrev pub names_handler : Info → Bool
names_handler info = has_flag 1 info.header || has_flag 2 info.header

-- from the record's start: after the header, an even number of slots of two bytes, and the handler's address
abbrev pub data_offset : UnwindInfoHeader → ℕ
data_offset header = 8 + 2 * (header.unwind_codes_len + header.unwind_codes_len % 2)

abbrev pub data_offset_by : Option Trailer → ℕ → Option ℕ
data_offset_by None offset = None
data_offset_by (Some (OnException address bytes)) offset = Some offset
data_offset_by (Some (OnTermination address bytes)) offset = Some offset
data_offset_by (Some (ChainedTo function)) offset = None

-- of a record whose trailer is a handler's
abbrev pub handler_data_offset_of : Info → Option ℕ
handler_data_offset_of info = data_offset_by (trailer_of info) (data_offset info.header)
