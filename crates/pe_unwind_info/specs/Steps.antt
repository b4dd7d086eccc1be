-- What unwind operations and the instructions of an epilog do to a machine.
use Rattle.std.specs.Prelude.{◌≡◌, ℕ, ◌+◌, ◌*◌, ◌^◌, List, [], ◌∷◌, Option, Some, None, Result, Ok, Err, if◌then◌else◌}
use Rattle.std.specs.declared.ops.ControlFlow.{ControlFlow}
use Rattle.std.specs.declared.ops.ControlFlow.TheVariants.{Continue, Break}
use Rattle.pe_unwind_info.specs.declared.x86_64.registers.Register.{Register}
use Rattle.pe_unwind_info.specs.declared.x86_64.fault.FrameFault.{FrameFault}
use Rattle.pe_unwind_info.specs.declared.x86_64.fault.FrameFault.TheVariants.{Stack as StackFault}
use Rattle.pe_unwind_info.specs.declared.x86_64.operations.UnwindOperation.{UnwindOperation}
use Rattle.pe_unwind_info.specs.declared.x86_64.operations.UnwindOperation.TheVariants.{EpilogInformation, PopNonVolatile, UnStackAlloc, RestoreSPFromFP, ReadNonVolatile, ReadXMM, PopMachineFrame}
use Rattle.pe_unwind_info.specs.declared.x86_64.epilog.FunctionEpilogInstruction.{FunctionEpilogInstruction}
use Rattle.pe_unwind_info.specs.declared.x86_64.epilog.FunctionEpilogInstruction.TheVariants.{AddSP, AddSPFromFP, Pop}
use Rattle.pe_unwind_info.specs.declared.x86_64.unwind_info.UnwindInfoHeader.{UnwindInfoHeader}
use Rattle.pe_unwind_info.specs.Registers.{register_number, xmm_number}
use Rattle.pe_unwind_info.specs.Header.{frame_register_of, frame_distance, base_register, base_distance}
use Rattle.pe_unwind_info.specs.Operations.{offset_value}
use Rattle.pe_unwind_info.specs.Machine.{Registers, Stack, with_general, with_xmm, stack_pointer, with_stack_pointer, plus, less, Returned, Faulted, After, Goes, Ends, word_or_fault, with_word, pop_into, then_goes}

-- an offset into the frame as an address, where the register that it counts from holds a value
abbrev pub offset_from : UnwindInfoHeader → ℕ → ℕ → ℕ
offset_from header value offset = plus (less value (base_distance header)) offset

abbrev pub frame_address : UnwindInfoHeader → Registers → ℕ → ℕ
frame_address header regs offset = offset_from header (regs.general (register_number (base_register header))) offset

-- the stack pointer that the frame register was set from, where there is a frame register
abbrev pub with_stack_restored : Option Register → ℕ → Registers → Registers
with_stack_restored None distance regs = regs
with_stack_restored (Some frame) distance regs = with_stack_pointer (less (regs.general (register_number frame)) distance) regs

-- a stored register, and a stored XMM register, whose high half stands above the low one
abbrev pub with_saved_register : Stack → ℕ → ℕ → Registers → After
with_saved_register stack a r regs = with_word (word_or_fault stack a) regs (λ v. Goes (with_general r v regs))

abbrev pub saved_xmm : Stack → ℕ → ℕ → Registers → After
saved_xmm stack a r regs =
    with_word (word_or_fault stack a) regs (λ low. with_word (word_or_fault stack (plus a 8)) regs (λ high. Goes (with_xmm r (low + 2 ^ 64 * high) regs)))

-- the address of a machine frame, and the stack pointer three words above it
abbrev pub machine_frame : Stack → ℕ → Registers → After
machine_frame stack a regs =
    with_word (word_or_fault stack a) regs (λ address. with_word (word_or_fault stack (plus a 24)) regs (λ sp. Ends (Returned address (with_stack_pointer sp regs))))

-- an unwind operation of a record with this header
abbrev pub act : UnwindInfoHeader → Stack → UnwindOperation → Registers → After
act header stack (EpilogInformation e) regs = Goes regs
act header stack (PopNonVolatile r) regs = pop_into stack (register_number r) regs
act header stack (UnStackAlloc n) regs = Goes (with_stack_pointer (plus (stack_pointer regs) n) regs)
act header stack RestoreSPFromFP regs = Goes (with_stack_restored (frame_register_of header) (frame_distance header) regs)
act header stack (ReadNonVolatile r k) regs = with_saved_register stack (frame_address header regs (offset_value k)) (register_number r) regs
act header stack (ReadXMM r k) regs = saved_xmm stack (frame_address header regs (offset_value k)) (xmm_number r) regs
act header stack (PopMachineFrame error_code) regs = machine_frame stack (plus (stack_pointer regs) (if error_code then 8 else 0)) regs

-- one operation after another
unfoldable pub run : UnwindInfoHeader → Stack → List UnwindOperation → Registers → After
run header stack [] regs = Goes regs
run header stack (operation ∷ later) regs = then_goes (act header stack operation regs) (run header stack later)

-- an instruction of an epilog
abbrev pub epilog_act : Option Register → Stack → FunctionEpilogInstruction → Registers → After
epilog_act frame stack (AddSP n) regs = Goes (with_stack_pointer (plus (stack_pointer regs) n) regs)
epilog_act None stack (AddSPFromFP n) regs = Goes regs
epilog_act (Some register) stack (AddSPFromFP n) regs = Goes (with_stack_pointer (plus (regs.general (register_number register)) n) regs)
epilog_act frame stack (Pop r) regs = pop_into stack (register_number r) regs

unfoldable pub epilog_run : Option Register → Stack → List FunctionEpilogInstruction → Registers → After
epilog_run frame stack [] regs = Goes regs
epilog_run frame stack (instruction ∷ later) regs = then_goes (epilog_act frame stack instruction regs) (epilog_run frame stack later)

-- what an operation has answered, with the registers that it left
abbrev pub flow_end : Result (ControlFlow ℕ Unit) FrameFault → Registers → After
flow_end (Ok (Continue u)) regs = Goes regs
flow_end (Ok (Break address)) regs = Ends (Returned address regs)
flow_end (Err fault) regs = Ends (Faulted fault regs)

-- the same without the address of the word that couldn't be read
abbrev pub IsResolved : Option (ControlFlow ℕ Unit) → Registers → After → Type 0
IsResolved None regs after = (a : ℕ) × (after ≡ Ends (Faulted (StackFault a) regs))
IsResolved (Some flow) regs after = after ≡ flow_end (Ok flow) regs
