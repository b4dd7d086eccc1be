-- A stopped process with modules of three formats: an address lies in one of them at most.
use Rattle.std.specs.Prelude.{◌⊎◌, ℕ, ◌+◌, ◌^◌, ◌<◌, ◌≤◌, List}
use Rattle.std.specs.List.{AllPairs, AllByRecursion}
use Rattle.memory_image.specs.Image.{Span, IsLaidOut}
use Rattle.format_definitions.specs.Modules.{FormatModule, Elf, Macho, Pe}

abbrev pub start_of : FormatModule → ℕ
start_of (Elf m) = m.start
start_of (Macho m) = m.base
start_of (Pe m) = m.base

abbrev pub end_of : FormatModule → ℕ
end_of (Elf m) = m.end
end_of (Macho m) = m.base + m.size
end_of (Pe m) = m.base + m.size

-- two modules share no address
abbrev pub FormatsApart : FormatModule → FormatModule → Type 0
FormatsApart m n = (end_of m ≤ start_of n) ⊎ (end_of n ≤ start_of m)

-- a nonempty range below 2^64
abbrev pub IsFormatRange : FormatModule → Type 0
IsFormatRange m = (start_of m < end_of m) × (end_of m < 2 ^ 64)

-- no address is in two regions, or in two modules
pub record IsProcess (image : List Span) (modules : List FormatModule) : Type 0 where
  pub regions : IsLaidOut 0 image
  pub ranges : AllByRecursion IsFormatRange modules
  pub apart : AllPairs FormatsApart modules
