-- The registers of x86 by their columns. System V i386 psABI, table of DWARF register numbers.
use Rattle.std.specs.Prelude.{ℕ, ◌==◌, Option, Some, None, nat_lt, slice_index, slice_set, if◌then◌else◌}
use Rattle.unwind_definitions.specs.Caller.{Columns}
use Rattle.unwind_arch.specs.declared.x86.Context.{Context}

-- what a context holds in a column
abbrev pub columns_of : Context → Columns
columns_of c k =
    if nat_lt k 8 then Some (slice_index c.registers k)
    else (if k == 8 then Some c.ra
    else (if k == 39 then Some c.mcxsr
    else None))

-- the context with another value in a column, which it has to have
abbrev pub with_column : Context → ℕ → ℕ → Option Context
with_column c k v =
    if nat_lt k 8 then Some (record c { registers = slice_set c.registers k v })
    else (if k == 8 then Some (record c { ra = v })
    else (if k == 39 then Some (record c { mcxsr = v })
    else None))
