-- The handler that an unwind record of a function names. Microsoft x64 exception handling: the flags for exceptions and for termination
-- say that a record names one, whose address and data stand after the slots.
use Rattle.std.specs.Prelude.{◌≡◌, ℕ, zero, suc, ◌+◌, ◌⊎◌, List, [], ◌∷◌, map, Option, Some, None, Result, Ok, Err, if◌then◌else◌}
use Rattle.std.specs.List.{find}
use Rattle.std.specs.declared.ops.ControlFlow.{ControlFlow}
use Rattle.std.specs.declared.ops.ControlFlow.TheVariants.{Continue, Break}
use Rattle.pe_unwind_info.specs.declared.x86_64.fault.FrameFault.{FrameFault}
use Rattle.pe_unwind_info.specs.declared.x86_64.fault.FrameFault.TheVariants.{Info as InfoFault, ChainLimit}
use Rattle.pe_unwind_info.specs.declared.x86_64.function_table.RuntimeFunction.{RuntimeFunction}
use Rattle.pe_unwind_info.specs.declared.x86_64.handler.Handler.{Handler}
use Rattle.pe_unwind_info.specs.Frame.{info_in, chained_of}
use Rattle.pe_unwind_info.specs.FrameOf.{Image}
use Rattle.pe_unwind_info.specs.FunctionTable.{IsLookup}
use Rattle.pe_unwind_info.specs.HandlerData.{data_offset, names_handler}
use Rattle.pe_unwind_info.specs.Info.{Info, Trailer, OnException, OnTermination, ChainedTo, trailer_of}

-- a function, and a record of it
abbrev pub OwnRecord : Type 0
OwnRecord = RuntimeFunction × Info

-- the handler that a function's record names, by the record's trailer
abbrev pub handler_with : RuntimeFunction → ℕ → ℕ → Handler
handler_with function offset address = record { begin = function.begin_address; handler_address = address; data_rva = function.unwind_info_address + offset }

abbrev pub handler_by : RuntimeFunction → ℕ → Option Trailer → Option Handler
handler_by function offset None = None
handler_by function offset (Some (OnException address bytes)) = Some (handler_with function offset address)
handler_by function offset (Some (OnTermination address bytes)) = Some (handler_with function offset address)
handler_by function offset (Some (ChainedTo other)) = None

abbrev pub handler_named : OwnRecord → Option Handler
handler_named own = handler_by own.0 (data_offset own.1.header) (trailer_of own.1)

-- of a record that names a handler: the handler, or that its bytes are missing
abbrev pub handler_or_fault : ℕ → Option Handler → Result (Option Handler) FrameFault
handler_or_fault rva None = Err (InfoFault rva)
handler_or_fault rva (Some handler) = Ok (Some handler)

abbrev pub handler_if_named : Option OwnRecord → Result (Option Handler) FrameFault
handler_if_named None = Ok None
handler_if_named (Some own) = handler_or_fault own.0.unwind_info_address (handler_named own)

-- ---- where the memory of the image is a function
abbrev pub with_own : OwnRecord → Result (List OwnRecord) FrameFault → Result (List OwnRecord) FrameFault
with_own own (Ok records) = Ok (own ∷ records)
with_own own (Err fault) = Err fault

abbrev pub then_records : RuntimeFunction → Result Info FrameFault → (Info → Result (List OwnRecord) FrameFault) → Result (List OwnRecord) FrameFault
then_records function (Ok info) later = with_own (function, info) (later info)
then_records function (Err fault) later = Err fault

-- The records from a function's on, each with its function, of which at most so many follow one another; or the fault of the first
-- that can't be read, or that there are more.
unfoldable pub records_of : Image → ℕ → Option RuntimeFunction → Result (List OwnRecord) FrameFault
records_of memory zero None = Ok []
records_of memory zero (Some function) = Err ChainLimit
records_of memory (suc n) None = Ok []
records_of memory (suc n) (Some function) =
    then_records function (info_in function.unwind_info_address (memory function.unwind_info_address)) (λ info. records_of memory n (chained_of info))

abbrev pub infos_of : List OwnRecord → List Info
infos_of records = map (λ (own : OwnRecord). own.1) records

abbrev pub first_naming : List OwnRecord → Option OwnRecord
first_naming records = find (λ (own : OwnRecord). names_handler own.1) records

abbrev pub handler_among : Result (List OwnRecord) FrameFault → Result (Option Handler) FrameFault
handler_among (Ok records) = handler_if_named (first_naming records)
handler_among (Err fault) = Err fault

-- The handler of a function: that of the first of its records that names one. A function has one record, and at most 32 that are chained.
abbrev pub handler_of : Image → Option RuntimeFunction → Result (Option Handler) FrameFault
handler_of memory function = handler_among (records_of memory 33 function)

-- ---- whatever is given as memory at each call
-- what is answered after a record, or the function whose record goes on
pub data Naming : Type 0 where
  Answers : Result (Option Handler) FrameFault → Naming
  GoesOn : Option RuntimeFunction → Naming

abbrev pub naming_by : RuntimeFunction → Info → Naming
naming_by function info = if names_handler info then Answers (handler_if_named (Some (function, info))) else GoesOn (chained_of info)

abbrev pub naming_of : RuntimeFunction → Result Info FrameFault → Naming
naming_of function (Err fault) = Answers (Err fault)
naming_of function (Ok info) = naming_by function info

abbrev pub ByNaming : Naming → (Option RuntimeFunction → Result (Option Handler) FrameFault → Type 0) → Result (Option Handler) FrameFault → Type 0
ByNaming (Answers given) later answer = answer ≡ given
ByNaming (GoesOn next) later answer = later next answer

-- the handler by at most so many records
unfoldable pub IsNamed : (ℕ → Option (List ℕ) → Type 0) → ℕ → Option RuntimeFunction → Result (Option Handler) FrameFault → Type 0
IsNamed gives zero None answer = answer ≡ Ok None
IsNamed gives zero (Some function) answer = answer ≡ Err ChainLimit
IsNamed gives (suc n) None answer = answer ≡ Ok None
IsNamed gives (suc n) (Some function) answer =
    (memory : Option (List ℕ)) × gives function.unwind_info_address memory × ByNaming (naming_of function (info_in function.unwind_info_address memory)) (IsNamed gives n) answer

abbrev pub IsHandler : (ℕ → Option (List ℕ) → Type 0) → Option RuntimeFunction → Result (Option Handler) FrameFault → Type 0
IsHandler gives function answer = IsNamed gives 33 function answer

-- the handler at an address, by the record that a look-up in the function table answers
abbrev pub IsHandlerAt : (ℕ → Option (List ℕ) → Type 0) → Option (List RuntimeFunction) → ℕ → Result (Option Handler) FrameFault → Type 0
IsHandlerAt gives functions address answer = (function : Option RuntimeFunction) × IsLookup functions address function × IsHandler gives function answer

-- what a call has answered of one record
abbrev pub naming_end : Result (ControlFlow Handler (Option RuntimeFunction)) FrameFault → Naming
naming_end (Ok (Continue next)) = GoesOn next
naming_end (Ok (Break handler)) = Answers (Ok (Some handler))
naming_end (Err fault) = Answers (Err fault)

-- ---- why there is none
-- all records of a function can be read, and none names a handler
abbrev pub NamesNone : Image → Option RuntimeFunction → Type 0
NamesNone memory function = (records : List OwnRecord) × (records_of memory 33 function ≡ Ok records) × (first_naming records ≡ None)

-- the first that names one, where all can be read
pub record IsNamedBy (memory : Image) (function : Option RuntimeFunction) (own : OwnRecord) : Type 0 where
  pub records : List OwnRecord
  pub are : records_of memory 33 function ≡ Ok records
  pub first : first_naming records ≡ Some own

-- a record that can't be read, or too many; or a record that names a handler, and whose bytes are missing
abbrev pub HasFault : Image → Option RuntimeFunction → FrameFault → Type 0
HasFault memory function fault =
    (records_of memory 33 function ≡ Err fault)
    ⊎ ((own : OwnRecord) × IsNamedBy memory function own × (handler_named own ≡ None) × (fault ≡ InfoFault own.0.unwind_info_address))

-- a function's handler, where it has one
abbrev pub HasHandler : Image → Option RuntimeFunction → Handler → Type 0
HasHandler memory function handler = (own : OwnRecord) × IsNamedBy memory function own × (handler_named own ≡ Some handler)
