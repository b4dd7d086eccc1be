-- What the code's steps answer, with registers by their columns, and parts of the steps that its functions compute.
use Rattle.std.specs.Prelude.{ℕ, ◌+◌, List, Option, Some, None, Result, Ok, Err}
use Rattle.std.specs.Result.{result_map_both}
use Rattle.memory_image.specs.Image.{Span}
use Rattle.memory_image.specs.Results.{◌>>=◌}
use Rattle.unwind_definitions.specs.declared.error.Error.{Error as Fault}
use Rattle.unwind_definitions.specs.Row.{RowInstructions}
use Rattle.unwind_definitions.specs.Expressions.{evaluation}
use Rattle.unwind_definitions.specs.Caller.{◌+w◌, Columns, StepFault, Table, x86_64, word_or_fault, caller_of}
use Rattle.unwind_definitions.specs.Columns as column
use Rattle.unwind_definitions.specs.State.{CalleeSaved, column_of}
use Rattle.unwind_definitions.specs.DescribedRows.{negative}
use Rattle.unwind_arch.specs.declared.x86_64.Context.{Context}
use Rattle.unwind_arch.specs.ContextViews.{columns_of}
use Rattle.fde_finders.specs.declared.find_fde.FDESearchResult.{FDESearchResult}
use Rattle.fde_finders.specs.Finding.{FoundFde}
use Rattle.fde_finders.specs.FoundViews.{found_fde_of}
use Rattle.unwinding_frames.specs.declared.frame.StepError.{StepError}
use Rattle.unwinding_frames.specs.Calling.{fault_of}
use Rattle.format_definitions.specs.CompactStep.{Stepped, half_or_fault, with_column}
use Rattle.format_frames.specs.declared.machine.Stepped.{Stepped as CodeStepped}

-- a caller by its columns
abbrev pub stepped_of : CodeStepped → Stepped
stepped_of s = record { columns = columns_of s.context; signal = s.signal }

abbrev pub stepped_given : Result CodeStepped StepError → Result Stepped StepFault
stepped_given = result_map_both stepped_of fault_of

-- none where an opcode gives no caller
abbrev pub opcode_given : Result (Option CodeStepped) StepError → Option (Result Stepped StepFault)
opcode_given (Ok None) = None
opcode_given (Ok (Some s)) = Some (Ok (stepped_of s))
opcode_given (Err e) = Some (Err (fault_of e))

-- a description, or why it can't be read
abbrev pub description_given : Result FDESearchResult StepError → Result FoundFde StepFault
description_given = result_map_both found_fde_of fault_of

abbrev pub faulting : {A : Type 0} → Result A Fault → Result A StepFault
faulting = result_map_both (λ x. x) Table

-- the caller's columns by a row
abbrev pub caller_by_row : List Span → Columns → Result RowInstructions Fault → Result Columns StepFault
caller_by_row image columns (Ok run) = caller_of x86_64 (evaluation image) image columns run
caller_by_row image columns (Err e) = Err (Table e)

-- the size at an address of the code, with what is added to it
abbrev pub size_in_code : List Span → ℕ → ℕ → Result ℕ StepFault
size_in_code image a adjust = half_or_fault image a >>= (λ size. Ok (adjust + size))

-- the columns after a field was read from an address: its register, if it names one
abbrev pub field_read : List Span → ℕ → Option CalleeSaved → Columns → Result Columns StepFault
field_read image a None columns = Ok columns
field_read image a (Some r) columns = word_or_fault image a >>= (λ v. Ok (with_column columns (column_of r) v))

-- the same of a register that is listed, with where the next one stands
abbrev pub listed_read : List Span → ℕ → Option CalleeSaved → Columns → Result (ℕ × Columns) StepFault
listed_read image a None columns = Ok (a, columns)
listed_read image a (Some r) columns = word_or_fault image a >>= (λ v. Ok (a +w negative 8, with_column columns (column_of r) v))

-- where the next register stands and a context, which a call leaves, or its fault
abbrev pub listed_given : Result ℕ StepError → Context → Result (ℕ × Columns) StepFault
listed_given (Ok next) c = Ok (next, columns_of c)
listed_given (Err e) c = Err (fault_of e)

-- the columns after a frame was left by its frame pointer: that word is the caller's RBP, and the return address stands above it
abbrev pub frame_left : List Span → ℕ → Columns → Result Columns StepFault
frame_left image rbp columns =
    word_or_fault image rbp >>= (λ saved.
    word_or_fault image (rbp +w 8) >>= (λ ret.
    Ok (with_column (with_column (with_column columns column.rbp saved) column.rsp (rbp +w 16)) column.ra ret)))
