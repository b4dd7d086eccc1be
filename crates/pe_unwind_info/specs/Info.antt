-- An unwind record: its header, its slots, and the trailer after them.
use Rattle.std.specs.Prelude.{ℕ, ◌+◌, ◌*◌, ◌%◌, ◌||◌, List, ◌∷◌, Option, Some, None, length, take, drop, nat_lt, ◌==◌, if◌then◌else◌}
use Rattle.pe_unwind_info.specs.declared.x86_64.function_table.RuntimeFunction.{RuntimeFunction}
use Rattle.pe_unwind_info.specs.declared.x86_64.unwind_info.UnwindInfoHeader.{UnwindInfoHeader}
use Rattle.pe_unwind_info.specs.declared.x86_64.unwind_info.UnwindInfo.{UnwindInfo}
use Rattle.pe_unwind_info.specs.declared.x86_64.unwind_info.UnwindInfoTrailer.{UnwindInfoTrailer}
use Rattle.pe_unwind_info.specs.declared.x86_64.unwind_info.UnwindInfoTrailer.TheVariants.{ExceptionHandler, TerminationHandler, ChainedUnwindInfo}
use Rattle.pe_unwind_info.specs.Numbers.{u32_at}
use Rattle.pe_unwind_info.specs.FunctionTable.{runtime_function_of}
use Rattle.pe_unwind_info.specs.Header.{version_of, has_flag}

-- a record: the header, the bytes of its slots, and those after an even number of slots
pub record Info : Type 0 where
  pub header : UnwindInfoHeader
  pub slots : List ℕ
  pub after : List ℕ

-- what a view of a record holds
abbrev pub info_of : UnwindInfo → Info
info_of info = record { header = info.header; slots = info.slots.now; after = info.after.now }

-- slots are two bytes long, and what stands after an odd number of them stands after one more
abbrev pub with_header : UnwindInfoHeader → List ℕ → Option Info
with_header header bytes =
    if (version_of header == 1) || (version_of header == 2) then
    (if nat_lt (length bytes) (2 * header.unwind_codes_len) then None
    else Some (record { header = header; slots = take (2 * header.unwind_codes_len) bytes; after = drop (2 * (header.unwind_codes_len + header.unwind_codes_len % 2)) bytes }))
    else None

-- the record that bytes begin with: of version 1 or 2, and with all of its slots
abbrev pub parsed_info : List ℕ → Option Info
parsed_info (flags ∷ size ∷ count ∷ frame ∷ bytes) = with_header (record { version_and_flags = flags; prolog_size = size; unwind_codes_len = count; frame_register_and_offset = frame }) bytes
parsed_info _ = None

-- a handler's address with the data after it, or the function whose record goes on
pub data Trailer : Type 0 where
  OnException OnTermination : ℕ → List ℕ → Trailer
  ChainedTo : RuntimeFunction → Trailer

abbrev pub trailer_view : UnwindInfoTrailer → Trailer
trailer_view (ExceptionHandler address bytes) = OnException address bytes.now
trailer_view (TerminationHandler address bytes) = OnTermination address bytes.now
trailer_view (ChainedUnwindInfo function) = ChainedTo function

abbrev pub handler_in : (ℕ → List ℕ → Trailer) → List ℕ → Option Trailer
handler_in handler after = if nat_lt (length after) 4 then None else Some (handler (u32_at 0 after) (drop 4 after))

abbrev pub chained_in : List ℕ → Option RuntimeFunction
chained_in after = if nat_lt (length after) 12 then None else Some (runtime_function_of (take 12 after))

abbrev pub chained_trailer : Option RuntimeFunction → Option Trailer
chained_trailer None = None
chained_trailer (Some function) = Some (ChainedTo function)

-- the trailer: the first that the flags for exceptions, for termination and for chaining name
abbrev pub trailer_of : Info → Option Trailer
trailer_of info =
    if has_flag 1 info.header then handler_in OnException info.after
    else (if has_flag 2 info.header then handler_in OnTermination info.after
    else (if has_flag 4 info.header then chained_trailer (chained_in info.after) else None))
