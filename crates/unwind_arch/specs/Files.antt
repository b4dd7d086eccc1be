-- The registers of a machine with 32 general and 32 floating-point registers, as RISC-V and LoongArch have, by their columns.
-- RISC-V ELF psABI and LoongArch ELF psABI, DWARF register numbers.
use Rattle.std.specs.Prelude.{ℕ, ◌-◌, Option, Some, None, nat_lt, slice_index, slice_set, if◌then◌else◌}
use Rattle.unwind_definitions.specs.Caller.{Columns}
use Rattle.unwind_arch.specs.declared.register_files.Context.{Context}

-- what a context holds in a column
abbrev pub columns_of : Context → Columns
columns_of c k =
    if nat_lt k 32 then Some (slice_index c.gp k)
    else (if nat_lt k 64 then Some (slice_index c.fp (k - 32))
    else None)

-- the context with another value in a column, which it has to have
abbrev pub with_column : Context → ℕ → ℕ → Option Context
with_column c k v =
    if nat_lt k 32 then Some (record c { gp = slice_set c.gp k v })
    else (if nat_lt k 64 then Some (record c { fp = slice_set c.fp (k - 32) v })
    else None)
