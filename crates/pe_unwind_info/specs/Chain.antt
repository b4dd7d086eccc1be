-- The unwind records of a function, as a list: its first one, and those that go on after it.
use Rattle.std.specs.Prelude.{ℕ, zero, suc, List, [], ◌∷◌, ◌++◌, map, Option, Some, None, Result, Ok, Err}
use Rattle.pe_unwind_info.specs.declared.x86_64.fault.FrameFault.{FrameFault}
use Rattle.pe_unwind_info.specs.declared.x86_64.fault.FrameFault.TheVariants.{ChainLimit}
use Rattle.pe_unwind_info.specs.declared.x86_64.function_table.RuntimeFunction.{RuntimeFunction}
use Rattle.pe_unwind_info.specs.declared.x86_64.operations.UnwindOperation.{UnwindOperation}
use Rattle.pe_unwind_info.specs.declared.x86_64.unwind_info.UnwindInfoHeader.{UnwindInfoHeader}
use Rattle.pe_unwind_info.specs.EpilogList.{after_epilogs}
use Rattle.pe_unwind_info.specs.Frame.{info_in, chained_of, operations_alone, from_place}
use Rattle.pe_unwind_info.specs.FrameOf.{Image}
use Rattle.pe_unwind_info.specs.Info.{Info}
use Rattle.pe_unwind_info.specs.InfoOperations.{operations_in}
use Rattle.pe_unwind_info.specs.Machine.{Registers, Stack, After, Goes, then_goes}
use Rattle.pe_unwind_info.specs.Steps.{act}

abbrev pub with_first : Info → Result (List Info) FrameFault → Result (List Info) FrameFault
with_first info (Ok infos) = Ok (info ∷ infos)
with_first info (Err fault) = Err fault

abbrev pub then_chain : Result Info FrameFault → (Info → Result (List Info) FrameFault) → Result (List Info) FrameFault
then_chain (Ok info) later = with_first info (later info)
then_chain (Err fault) later = Err fault

-- The records from a function's on, of which at most so many follow one another; or the fault of the first that can't be read,
-- or that there are more.
unfoldable pub chain_of : Image → ℕ → Option RuntimeFunction → Result (List Info) FrameFault
chain_of memory zero None = Ok []
chain_of memory zero (Some function) = Err ChainLimit
chain_of memory (suc n) None = Ok []
chain_of memory (suc n) (Some function) = then_chain (info_in function.unwind_info_address (memory function.unwind_info_address)) (λ info. chain_of memory n (chained_of info))

-- an operation with the header of its record, which says what its offsets count from
abbrev pub HeadedOperation : Type 0
HeadedOperation = UnwindInfoHeader × UnwindOperation

abbrev pub headed_operations : Info → List UnwindOperation → List HeadedOperation
headed_operations info operations = map (λ (operation : UnwindOperation). (info.header, operation)) operations

-- all operations of records, one record after another
abbrev pub operations_of_all : List Info → List HeadedOperation
operations_of_all [] = []
operations_of_all (info ∷ infos) = headed_operations info (operations_alone (operations_in info)) ++ operations_of_all infos

-- the operations of a function's records that undo what its prologue has done up to an offset in the code
abbrev pub operations_at : ℕ → Info → List Info → List HeadedOperation
operations_at offset first chained = headed_operations first (operations_alone (from_place offset (after_epilogs (operations_in first)))) ++ operations_of_all chained

-- one operation after another
unfoldable pub run_headed : Stack → List HeadedOperation → Registers → After
run_headed stack [] regs = Goes regs
run_headed stack (operation ∷ later) regs = then_goes (act operation.0 stack operation.1 regs) (run_headed stack later)
