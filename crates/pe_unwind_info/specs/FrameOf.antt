-- The frame at an address as a function, where the memory of the image is one.
use Rattle.std.specs.Prelude.{◌≡◌, ℕ, zero, suc, ◌-◌, Bool, true, false, List, Option, Some, None, Result, Ok, Err}
use Rattle.pe_unwind_info.specs.declared.x86_64.registers.Register.{Register}
use Rattle.pe_unwind_info.specs.declared.x86_64.fault.FrameFault.{FrameFault}
use Rattle.pe_unwind_info.specs.declared.x86_64.function_table.RuntimeFunction.{RuntimeFunction}
use Rattle.pe_unwind_info.specs.declared.x86_64.epilog.FunctionEpilogInstruction.{FunctionEpilogInstruction}
use Rattle.pe_unwind_info.specs.Header.{frame_register_of}
use Rattle.pe_unwind_info.specs.Info.{Info}
use Rattle.pe_unwind_info.specs.InfoOperations.{operations_in}
use Rattle.pe_unwind_info.specs.Operations.{Placed}
use Rattle.pe_unwind_info.specs.EpilogList.{leading_epilogs, after_epilogs, is_due}
use Rattle.pe_unwind_info.specs.Machine.{Registers, Stack, FrameEnd, Faulted, pop_return, then_ends}
use Rattle.pe_unwind_info.specs.Steps.{run, epilog_run}
use Rattle.pe_unwind_info.specs.Frame.{info_in, epilog_in, operations_alone, from_place, Link, Follows, Stops, ShowsEnd, link_of, at_limit, chained_of}
use Rattle.pe_unwind_info.specs.FunctionTable.{lookup_of}
use Rattle.pe_unwind_info.specs.Sections.{memory_by, sections_in}

-- what stands in memory from a relative virtual address on
abbrev pub Image : Type 0
Image = ℕ → Option (List ℕ)

abbrev pub then_follows : Link → (Option RuntimeFunction → Registers → FrameEnd) → FrameEnd
then_follows (Follows next regs) later = later next regs
then_follows (Stops end) later = end

-- at most so many chained records, and then the return address
unfoldable pub end_of_chain : Image → Stack → ℕ → Option RuntimeFunction → Registers → FrameEnd
end_of_chain memory stack zero next regs = at_limit stack next regs
end_of_chain memory stack (suc n) None regs = pop_return stack regs
end_of_chain memory stack (suc n) (Some function) regs = then_follows (link_of (info_in function.unwind_info_address (memory function.unwind_info_address)) stack regs) (end_of_chain memory stack n)

-- the rest of an epilog, or operations and the chained records
abbrev pub left_by : Image → Stack → Info → List Placed → Option (List FunctionEpilogInstruction) → Registers → FrameEnd
left_by memory stack info operations (Some instructions) regs = then_ends (epilog_run (frame_register_of info.header) stack instructions regs) (pop_return stack)
left_by memory stack info operations None regs = then_ends (run info.header stack (operations_alone operations) regs) (end_of_chain memory stack 32 (chained_of info))

abbrev pub epilog_if_tested : Bool → Image → Option Register → ℕ → ℕ → Result (Option (List FunctionEpilogInstruction)) FrameFault
epilog_if_tested false memory frame end address = Ok None
epilog_if_tested true memory frame end address = epilog_in frame end address (memory address)

abbrev pub by_test : Image → Stack → ℕ → RuntimeFunction → Info → Result (Option (List FunctionEpilogInstruction)) FrameFault → Registers → FrameEnd
by_test memory stack address function info (Err fault) regs = Faulted fault regs
by_test memory stack address function info (Ok epilog) regs = left_by memory stack info (from_place (address - function.begin_address) (after_epilogs (operations_in info))) epilog regs

abbrev pub in_record : Image → Stack → ℕ → RuntimeFunction → Result Info FrameFault → Registers → FrameEnd
in_record memory stack address function (Err fault) regs = Faulted fault regs
in_record memory stack address function (Ok info) regs =
    by_test memory stack address function info (epilog_if_tested (is_due function.end_address address (leading_epilogs (operations_in info))) memory (frame_register_of info.header) function.end_address address) regs

-- How the frame at an address of a function ends, or of one that no record covers.
abbrev pub frame_end_of : Image → Stack → ℕ → Option RuntimeFunction → Registers → FrameEnd
frame_end_of memory stack address None regs = pop_return stack regs
frame_end_of memory stack address (Some function) regs = in_record memory stack address function (info_in function.unwind_info_address (memory function.unwind_info_address)) regs

-- the same by a function table and the memory of an image in its file layout; an image without sections gives no address, and leaves
-- the registers
abbrev pub IsUnwoundBy : List ℕ → Option (List ℕ) → Stack → Option (List RuntimeFunction) → ℕ → Registers → Option ℕ → Registers → Type 0
IsUnwoundBy image None stack functions address regs result left = (result ≡ None) × (left ≡ regs)
IsUnwoundBy image (Some headers) stack functions address regs result left = ShowsEnd result left (frame_end_of (memory_by image (sections_in headers)) stack address (lookup_of functions address) regs)
