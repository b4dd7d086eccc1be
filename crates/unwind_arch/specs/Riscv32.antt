-- The registers of 32-bit RISC-V by their columns. RISC-V ELF psABI, DWARF register numbers.
use Rattle.std.specs.Prelude.{ℕ, Option, Some, None, nat_lt, slice_index, slice_set, if◌then◌else◌}
use Rattle.unwind_definitions.specs.Caller.{Columns}
use Rattle.unwind_arch.specs.declared.riscv32.Context.{Context}

-- what a context holds in a column; its floating-point registers have none
abbrev pub columns_of : Context → Columns
columns_of c k = if nat_lt k 32 then Some (slice_index c.gp k) else None

-- the context with another value in a column, which it has to have
abbrev pub with_column : Context → ℕ → ℕ → Option Context
with_column c k v = if nat_lt k 32 then Some (record c { gp = slice_set c.gp k v }) else None
