-- A frame at an address, by the unwind records of its function.
use Rattle.std.specs.Prelude.{◌≡◌, ℕ, zero, suc, ◌-◌, ◌^◌, ◌<◌, Bool, true, false, List, [], ◌∷◌, map, length, take, Option, Some, None, Result, Ok, Err, nat_lt, if◌then◌else◌}
use Rattle.std.specs.declared.ops.ControlFlow.{ControlFlow}
use Rattle.std.specs.declared.ops.ControlFlow.TheVariants.{Continue, Break}
use Rattle.pe_unwind_info.specs.declared.x86_64.registers.Register.{Register}
use Rattle.pe_unwind_info.specs.declared.x86_64.fault.FrameFault.{FrameFault}
use Rattle.pe_unwind_info.specs.declared.x86_64.fault.FrameFault.TheVariants.{Memory, Info as InfoFault, EpilogBytes, ChainLimit}
use Rattle.pe_unwind_info.specs.declared.x86_64.function_table.RuntimeFunction.{RuntimeFunction}
use Rattle.pe_unwind_info.specs.declared.x86_64.epilog.FunctionEpilogInstruction.{FunctionEpilogInstruction}
use Rattle.pe_unwind_info.specs.declared.x86_64.operations.UnwindOperation.{UnwindOperation}
use Rattle.pe_unwind_info.specs.FunctionTable.{IsLookup}
use Rattle.pe_unwind_info.specs.Header.{frame_register_of}
use Rattle.pe_unwind_info.specs.Info.{Info, parsed_info, Trailer, OnException, OnTermination, ChainedTo, trailer_of}
use Rattle.pe_unwind_info.specs.InfoOperations.{operations_in}
use Rattle.pe_unwind_info.specs.Operations.{Placed}
use Rattle.pe_unwind_info.specs.Epilog.{Sequence, sequence_of}
use Rattle.pe_unwind_info.specs.EpilogList.{leading_epilogs, after_epilogs, is_due}
use Rattle.pe_unwind_info.specs.Machine.{Registers, Stack, FrameEnd, Returned, Faulted, After, Goes, Ends, pop_return, then_ends}
use Rattle.pe_unwind_info.specs.Sections.{sections_in, IsMemoryAt}
use Rattle.pe_unwind_info.specs.Steps.{run, epilog_run}

-- what a call may give as the memory at a relative virtual address, which is a number of 32 bits
abbrev pub Gives : {A : Type 0} → (ℕ → A → Type 0) → (A → Option (List ℕ)) → ℕ → Option (List ℕ) → Type 0
Gives {A} answers content rva memory = (answer : A) × (rva < 2 ^ 32) × answers rva answer × (content answer ≡ memory)

-- ---- what is read from memory
abbrev pub info_or : ℕ → Option Info → Result Info FrameFault
info_or rva None = Err (InfoFault rva)
info_or rva (Some info) = Ok info

-- the unwind record at an address, from the memory there
abbrev pub info_in : ℕ → Option (List ℕ) → Result Info FrameFault
info_in rva None = Err (Memory rva)
info_in rva (Some bytes) = info_or rva (parsed_info bytes)

-- the function whose record goes on after this one
abbrev pub chained_by : Option Trailer → Option RuntimeFunction
chained_by None = None
chained_by (Some (OnException address bytes)) = None
chained_by (Some (OnTermination address bytes)) = None
chained_by (Some (ChainedTo function)) = Some function

abbrev pub chained_of : Info → Option RuntimeFunction
chained_of info = chained_by (trailer_of info)

-- the instructions of the epilog that the code from an address to the function's end begins with, where it begins with one
abbrev pub epilog_or_none : Sequence → Option (List FunctionEpilogInstruction)
epilog_or_none (Ok instructions) = Some instructions
epilog_or_none (Err e) = None

-- the same of code, where there is some
abbrev pub epilog_of : Option Register → Option (List ℕ) → Option (List FunctionEpilogInstruction)
epilog_of frame None = None
epilog_of frame (Some code) = epilog_or_none (sequence_of frame code)

abbrev pub epilog_in : Option Register → ℕ → ℕ → Option (List ℕ) → Result (Option (List FunctionEpilogInstruction)) FrameFault
epilog_in frame end address None = Err EpilogBytes
epilog_in frame end address (Some bytes) =
    if nat_lt end address then Err EpilogBytes
    else (if nat_lt (length bytes) (end - address) then Err EpilogBytes
    else Ok (epilog_or_none (sequence_of frame (take (end - address) bytes))))

-- ---- operations
abbrev pub operations_alone : List Placed → List UnwindOperation
operations_alone ps = map (λ (p : Placed). p.1) ps

-- the operations from the first with a place at or below an offset
unfoldable pub from_place : ℕ → List Placed → List Placed
from_place offset [] = []
from_place offset (p ∷ later) = if nat_lt offset p.0 then from_place offset later else p ∷ later

-- ---- chained records
-- the next record to go on with, or the frame has ended
pub data Link : Type 0 where
  Follows : Option RuntimeFunction → Registers → Link
  Stops : FrameEnd → Link

abbrev pub follow : Option RuntimeFunction → After → Link
follow next (Goes regs) = Follows next regs
follow next (Ends end) = Stops end

-- all operations of a chained record
abbrev pub link_by : Info → Stack → Registers → Link
link_by info stack regs = follow (chained_of info) (run info.header stack (operations_alone (operations_in info)) regs)

abbrev pub link_of : Result Info FrameFault → Stack → Registers → Link
link_of (Err fault) stack regs = Stops (Faulted fault regs)
link_of (Ok info) stack regs = link_by info stack regs

abbrev pub ByLink : Link → (Option RuntimeFunction → Registers → FrameEnd → Type 0) → FrameEnd → Type 0
ByLink (Follows next regs) later end = later next regs end
ByLink (Stops stop) later end = end ≡ stop

abbrev pub at_limit : Stack → Option RuntimeFunction → Registers → FrameEnd
at_limit stack None regs = pop_return stack regs
at_limit stack (Some function) regs = Faulted ChainLimit regs

-- at most so many chained records, and then the return address
unfoldable pub IsLinked : (ℕ → Option (List ℕ) → Type 0) → Stack → ℕ → Option RuntimeFunction → Registers → FrameEnd → Type 0
IsLinked gives stack zero next regs end = end ≡ at_limit stack next regs
IsLinked gives stack (suc n) None regs end = end ≡ pop_return stack regs
IsLinked gives stack (suc n) (Some function) regs end =
    (memory : Option (List ℕ)) × gives function.unwind_info_address memory × ByLink (link_of (info_in function.unwind_info_address memory) stack regs) (IsLinked gives stack n) end

abbrev pub ByRun : After → (Registers → FrameEnd → Type 0) → FrameEnd → Type 0
ByRun (Goes regs) later end = later regs end
ByRun (Ends stop) later end = end ≡ stop

-- ---- the first record
-- whether the code begins with an epilog, where it has to be tested
abbrev pub IsTested : Bool → (ℕ → Option (List ℕ) → Type 0) → Option Register → ℕ → ℕ → Result (Option (List FunctionEpilogInstruction)) FrameFault → Type 0
IsTested false gives frame end address test = test ≡ Ok None
IsTested true gives frame end address test = (memory : Option (List ℕ)) × gives address memory × (test ≡ epilog_in frame end address memory)

-- the rest of an epilog and the return address; or the operations of what the prologue has done up to the address, and the chained records
abbrev pub Leaves : (ℕ → Option (List ℕ) → Type 0) → Stack → Info → List Placed → Option (List FunctionEpilogInstruction) → Registers → FrameEnd → Type 0
Leaves gives stack info operations (Some instructions) regs end = end ≡ then_ends (epilog_run (frame_register_of info.header) stack instructions regs) (pop_return stack)
Leaves gives stack info operations None regs end = ByRun (run info.header stack (operations_alone operations) regs) (IsLinked gives stack 32 (chained_of info)) end

abbrev pub ByTest : (ℕ → Option (List ℕ) → Type 0) → Stack → ℕ → RuntimeFunction → Info → Result (Option (List FunctionEpilogInstruction)) FrameFault → Registers → FrameEnd → Type 0
ByTest gives stack address function info (Err fault) regs end = end ≡ Faulted fault regs
ByTest gives stack address function info (Ok epilog) regs end = Leaves gives stack info (from_place (address - function.begin_address) (after_epilogs (operations_in info))) epilog regs end

abbrev pub InRecord : (ℕ → Option (List ℕ) → Type 0) → Stack → ℕ → RuntimeFunction → Result Info FrameFault → Registers → FrameEnd → Type 0
InRecord gives stack address function (Err fault) regs end = end ≡ Faulted fault regs
InRecord gives stack address function (Ok info) regs end =
    (test : Result (Option (List FunctionEpilogInstruction)) FrameFault)
    × IsTested (is_due function.end_address address (leading_epilogs (operations_in info))) gives (frame_register_of info.header) function.end_address address test
    × ByTest gives stack address function info test regs end

-- How the frame of a function ends, from an address in it.
abbrev pub IsFunctionFrame : (ℕ → Option (List ℕ) → Type 0) → Stack → ℕ → RuntimeFunction → Registers → FrameEnd → Type 0
IsFunctionFrame gives stack address function regs end =
    (memory : Option (List ℕ)) × gives function.unwind_info_address memory × InRecord gives stack address function (info_in function.unwind_info_address memory) regs end

-- How a frame ends: a function that no record covers has changed nothing but the stack pointer, by its call.
abbrev pub IsFrame : (ℕ → Option (List ℕ) → Type 0) → Stack → ℕ → Option RuntimeFunction → Registers → FrameEnd → Type 0
IsFrame gives stack address None regs end = end ≡ pop_return stack regs
IsFrame gives stack address (Some function) regs end = IsFunctionFrame gives stack address function regs end

-- what a call has answered, with the registers that it left
abbrev pub link_end : Result (ControlFlow ℕ (Option RuntimeFunction)) FrameFault → Registers → Link
link_end (Ok (Continue next)) regs = Follows next regs
link_end (Ok (Break address)) regs = Stops (Returned address regs)
link_end (Err fault) regs = Stops (Faulted fault regs)

-- How a frame ends at an address, by the record that a look-up in the function table answers.
abbrev pub IsUnwound : (ℕ → Option (List ℕ) → Type 0) → Stack → Option (List RuntimeFunction) → ℕ → Registers → FrameEnd → Type 0
IsUnwound gives stack functions address regs end = (function : Option RuntimeFunction) × IsLookup functions address function × IsFrame gives stack address function regs end

-- a return address, or no address where there was a fault, with the registers that were left
abbrev pub ShowsEnd : Option ℕ → Registers → FrameEnd → Type 0
ShowsEnd (Some address) regs end = end ≡ Returned address regs
ShowsEnd None regs end = (fault : FrameFault) × (end ≡ Faulted fault regs)

-- an image without sections gives no address, and leaves the registers; one with sections gives its memory
abbrev pub IsUnwoundIn : List ℕ → Option (List ℕ) → Stack → Option (List RuntimeFunction) → ℕ → Registers → Option ℕ → Registers → Type 0
IsUnwoundIn image None stack functions address regs result left = (result ≡ None) × (left ≡ regs)
IsUnwoundIn image (Some headers) stack functions address regs result left =
    (end : FrameEnd) × IsUnwound (IsMemoryAt image (sections_in headers)) stack functions address regs end × ShowsEnd result left end
