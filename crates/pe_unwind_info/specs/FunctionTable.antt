-- The function table of an image, in its section `.pdata`.
use Rattle.std.specs.Prelude.{◌≡◌, ℕ, ◌/◌, ◌%◌, ◌<◌, ◌≤◌, Bool, ◌||◌, List, [], ◌∷◌, Option, Some, None, length, nat_lt, ◌==◌, if◌then◌else◌}
use Rattle.memory_image.specs.Records.{records_in}
use Rattle.pe_unwind_info.specs.declared.x86_64.function_table.RuntimeFunction.{RuntimeFunction}
use Rattle.pe_unwind_info.specs.declared.x86_64.function_table.FunctionTableEntries.{FunctionTableEntries}
use Rattle.pe_unwind_info.specs.Numbers.{u32_at}
use Rattle.pe_unwind_info.specs.Search.{IsSearched, boundary_in}

-- the record that twelve bytes spell
abbrev pub runtime_function_of : List ℕ → RuntimeFunction
runtime_function_of bytes = record { begin_address = u32_at 0 bytes; end_address = u32_at 4 bytes; unwind_info_address = u32_at 8 bytes }

-- the bytes that a view of the table has not yet given
abbrev pub table_bytes : FunctionTableEntries → List ℕ
table_bytes entries = entries.bytes.now

-- the whole records in bytes
abbrev pub whole_functions : List ℕ → List RuntimeFunction
whole_functions bytes = records_in 12 runtime_function_of bytes (length bytes / 12)

-- the records of a table whose bytes are whole records
abbrev pub functions_of : List ℕ → Option (List RuntimeFunction)
functions_of bytes = if length bytes % 12 == 0 then Some (whole_functions bytes) else None

-- the record covers the address, or begins at it
abbrev pub covers : RuntimeFunction → ℕ → Bool
covers function address = (function.begin_address == address) || nat_lt address function.end_address

abbrev pub covering : Option RuntimeFunction → ℕ → Option RuntimeFunction
covering None address = None
covering (Some function) address = if covers function address then Some function else None

-- what a look-up of an address may answer: the record that the search by begin finds, where it covers the address
abbrev pub IsLookup : Option (List RuntimeFunction) → ℕ → Option RuntimeFunction → Type 0
IsLookup None address answer = answer ≡ None
IsLookup (Some functions) address answer =
    (found : Option RuntimeFunction) × IsSearched (λ (f : RuntimeFunction). f.begin_address) functions address found × (answer ≡ covering found address)

-- The one that it answers: the search halves, so that also in a table out of order it is always the same.
unfoldable pub lookup_of : Option (List RuntimeFunction) → ℕ → Option RuntimeFunction
lookup_of None address = None
lookup_of (Some functions) address = covering (boundary_in (λ (f : RuntimeFunction). f.begin_address) functions address) address

-- ---- tables in order
-- functions that are nonempty, ascend and share no address, from one address up to another
abbrev pub AreOrdered : ℕ → ℕ → List RuntimeFunction → Type 0
AreOrdered low high [] = Unit {0}
AreOrdered low high (f ∷ functions) = (low ≤ f.begin_address) × (f.begin_address < f.end_address) × (f.end_address ≤ high) × AreOrdered f.end_address high functions

-- a record has an address between its begin and its end
abbrev pub Holds : RuntimeFunction → ℕ → Type 0
Holds f address = (f.begin_address ≤ address) × (address < f.end_address)
