-- The registers of AArch64 by their columns. DWARF for the Arm 64-bit Architecture, DWARF register names.
use Rattle.std.specs.Prelude.{ℕ, ◌-◌, ◌==◌, Option, Some, None, nat_lt, slice_index, slice_set, if◌then◌else◌}
use Rattle.unwind_definitions.specs.Caller.{Columns}
use Rattle.unwind_arch.specs.declared.aarch64.Context.{Context}

-- what a context holds in a column
abbrev pub columns_of : Context → Columns
columns_of c k =
    if nat_lt k 31 then Some (slice_index c.gp k)
    else (if k == 31 then Some c.sp
    else (if nat_lt k 64 then None
    else (if nat_lt k 96 then Some (slice_index c.fp (k - 64))
    else None)))

-- the context with another value in a column, which it has to have
abbrev pub with_column : Context → ℕ → ℕ → Option Context
with_column c k v =
    if nat_lt k 31 then Some (record c { gp = slice_set c.gp k v })
    else (if k == 31 then Some (record c { sp = v })
    else (if nat_lt k 64 then None
    else (if nat_lt k 96 then Some (record c { fp = slice_set c.fp (k - 64) v })
    else None)))
