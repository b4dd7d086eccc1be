-- Ranges of addresses: which of them share an address, and those of regions and of modules.
use Rattle.std.specs.Prelude.{ℕ, ◌+◌, ◌-◌, ◌^◌, ◌≤◌, ◌==◌, Bool, true, ◌&&◌, List, [], ◌∷◌, length, count_by, Option, Some, None, nat_le, nat_lt, if◌then◌else◌, option_map, option_and_then}
use Rattle.memory_image.specs.Image.{Span}
use Rattle.stack_steps.specs.Modules.{fits}
use Rattle.stack_steps.specs.declared.space.Module.{Module}
use Rattle.stack_snapshot.specs.declared.ranges.AddressRange.{AddressRange}

-- the address lies in the range
abbrev pub lies_in : ℕ → AddressRange → Bool
lies_in a r = nat_le r.first a && nat_le a r.last

-- no address lies in two of these
abbrev pub AreDisjoint : List AddressRange → Type 0
AreDisjoint rs = (a : ℕ) → count_by (lies_in a) rs ≤ 1

-- each begins after the end of the one before, the first after an address
abbrev pub ascend_after : ℕ → List AddressRange → Bool
ascend_after last [] = true
ascend_after last (r ∷ rs) = nat_lt last r.first && ascend_after r.last rs

abbrev pub are_ascending : List AddressRange → Bool
are_ascending [] = true
are_ascending (r ∷ rs) = ascend_after r.last rs

abbrev pub range_with : ℕ → ℕ → AddressRange
range_with first last = record { first = first; last = last }

-- what each says, where each says something
abbrev pub each_in : {A B : Type 0} → (A → Option B) → List A → Option (List B)
each_in f [] = Some []
each_in f (x ∷ xs) = option_and_then (λ y. option_map (λ ys. y ∷ ys) (each_in f xs)) (f x)

-- the addresses of a region that has bytes, and none past 2 ^ 64 - 1
abbrev pub region_range : Span → Option AddressRange
region_range s =
    if length s.bytes == 0 then None
    else (if nat_lt (2 ^ 64) (s.start + length s.bytes) then None else Some (range_with s.start (s.start + length s.bytes - 1)))

-- the addresses of a module that has some, ends below 2 ^ 64, and has no more than its format allows
abbrev pub module_range : Module → Option AddressRange
module_range m =
    if fits m.tables (m.end - m.start) then
    (if nat_le (2 ^ 64) m.end then None else (if nat_le m.end m.start then None else Some (range_with m.start (m.end - 1))))
    else None
