-- Columns that show a state.
use Rattle.std.specs.Prelude.{◌==◌, if◌then◌else◌, Some, None, nat_lt}
use Rattle.unwind_definitions.specs.Columns as column
use Rattle.unwind_definitions.specs.Caller.{Columns}
use Rattle.unwind_definitions.specs.State.{State}

-- what the integer registers and the return address of x86-64 hold; those that a state doesn't have hold 0
abbrev pub columns_of : State → Columns
columns_of s c =
    if c == column.rbx then Some s.rbx
    else (if c == column.rbp then Some s.rbp
    else (if c == column.rsp then Some s.sp
    else (if c == column.r12 then Some s.r12
    else (if c == column.r13 then Some s.r13
    else (if c == column.r14 then Some s.r14
    else (if c == column.r15 then Some s.r15
    else (if c == column.ra then Some s.ra
    else (if nat_lt c column.ra then Some 0 else None))))))))
