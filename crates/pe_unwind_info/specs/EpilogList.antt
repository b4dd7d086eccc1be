-- Where a record's epilog operations say that the function's epilogs are.
use Rattle.std.specs.Prelude.{ℕ, ◌+◌, Bool, true, false, not, ◌&&◌, ◌||◌, List, [], ◌∷◌, Option, Some, None, nat_lt, nat_le, ◌==◌}
use Rattle.pe_unwind_info.specs.declared.x86_64.operations.EpilogInformation.{EpilogInformation as Epilog}
use Rattle.pe_unwind_info.specs.declared.x86_64.operations.UnwindOperation.{UnwindOperation}
use Rattle.pe_unwind_info.specs.declared.x86_64.operations.UnwindOperation.TheVariants.{EpilogInformation}
use Rattle.pe_unwind_info.specs.Operations.{Placed, size_of_epilogs, ends_with_one, offset_of_epilog}

-- what an epilog operation tells, and the first operation where it is one
abbrev pub told_by : UnwindOperation → Option Epilog
told_by (EpilogInformation epilog) = Some epilog
told_by _ = None

abbrev pub first_epilog : List Placed → Option Epilog
first_epilog [] = None
first_epilog (p ∷ later) = told_by p.1

-- the epilog operations that come first, and the operations after them
abbrev pub lead_with : Option Epilog → List Epilog → List Epilog
lead_with None later = []
lead_with (Some epilog) later = epilog ∷ later

unfoldable pub leading_epilogs : List Placed → List Epilog
leading_epilogs [] = []
leading_epilogs (p ∷ later) = lead_with (told_by p.1) (leading_epilogs later)

abbrev pub rest_unless : Option Epilog → List Placed → List Placed → List Placed
rest_unless None all later = all
rest_unless (Some epilog) all later = later

unfoldable pub after_epilogs : List Placed → List Placed
after_epilogs [] = []
after_epilogs (p ∷ later) = rest_unless (told_by p.1) (p ∷ later) (after_epilogs later)

-- an epilog of this size that begins so many bytes before the end holds the address
abbrev pub is_within : ℕ → ℕ → ℕ → ℕ → Bool
is_within end size address offset = nat_le end (address + offset) && nat_lt (address + offset) (end + size)

-- a later epilog operation lists an epilog that holds the address; one that is 0 fills a slot
abbrev pub lists : ℕ → ℕ → ℕ → Epilog → Bool
lists end size address epilog = not (offset_of_epilog epilog == 0) && is_within end size address (offset_of_epilog epilog)

unfoldable pub any_lists : ℕ → ℕ → ℕ → List Epilog → Bool
any_lists end size address [] = false
any_lists end size address (epilog ∷ later) = lists end size address epilog || any_lists end size address later

-- the first one lists an epilog at the function's end that holds the address
abbrev pub lists_last : ℕ → ℕ → Epilog → Bool
lists_last end address first = ends_with_one first && is_within end (size_of_epilogs first) address (size_of_epilogs first)

-- whether the code at an address has to be tested for an epilog: where nothing is told of epilogs, and where an epilog that is listed holds the address
abbrev pub is_due : ℕ → ℕ → List Epilog → Bool
is_due end address [] = true
is_due end address (first ∷ later) = lists_last end address first || any_lists end (size_of_epilogs first) address later
