-- The registers of x86-64 by their columns. System V x86-64 psABI, table of DWARF register numbers.
use Rattle.std.specs.Prelude.{ℕ, ◌==◌, List, [], ◌∷◌, Option, Some, None, nat_lt, map, slice_index, slice_set, if◌then◌else◌}
use Rattle.std.specs.Option.{unwrap_or}
use Rattle.unwind_definitions.specs.Caller.{Columns}
use Rattle.unwind_definitions.specs.Columns.{ra, mxcsr, fcw}
use Rattle.unwind_arch.specs.declared.x86_64.Context.{Context}

-- what a context holds in a column
abbrev pub columns_of : Context → Columns
columns_of c k =
    if nat_lt k 16 then Some (slice_index c.registers k)
    else (if k == ra then Some c.ra
    else (if k == mxcsr then Some c.mcxsr
    else (if k == fcw then Some c.fcw
    else None)))

-- the context with another value in a column, which it has to have
abbrev pub with_column : Context → ℕ → ℕ → Option Context
with_column c k v =
    if nat_lt k 16 then Some (record c { registers = slice_set c.registers k v })
    else (if k == ra then Some (record c { ra = v })
    else (if k == mxcsr then Some (record c { mcxsr = v })
    else (if k == fcw then Some (record c { fcw = v })
    else None)))

abbrev pub general_columns : List ℕ
general_columns = 0 ∷ 1 ∷ 2 ∷ 3 ∷ 4 ∷ 5 ∷ 6 ∷ 7 ∷ 8 ∷ 9 ∷ 10 ∷ 11 ∷ 12 ∷ 13 ∷ 14 ∷ 15 ∷ []

-- the context that holds these columns
abbrev pub context_of : Columns → Context
context_of columns = record {
  registers = map (λ k. unwrap_or (columns k) 0) general_columns;
  ra = unwrap_or (columns ra) 0;
  mcxsr = unwrap_or (columns mxcsr) 0;
  fcw = unwrap_or (columns fcw) 0;
}

-- a context that was written, if it was
abbrev pub context_if_written : {C : Type 0} → Option (Unit {0}) → C → Option C
context_if_written None c = None
context_if_written (Some done) c = Some c
