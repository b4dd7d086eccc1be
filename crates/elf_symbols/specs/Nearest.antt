-- What the symbol of an address is, said of the whole table.
use Rattle.std.specs.Prelude.{◌≡◌, ◌⊎◌, ℕ, ◌<◌, ◌≤◌, List, slice_get, Some, true}
use Rattle.elf_symbols.specs.declared.symbol.Symbol.{Symbol}
use Rattle.elf_symbols.specs.Symbols.{holds, precedence}

-- of two symbols in which an address lies: s begins later than t or, where they begin together, its binding counts more or, where it
-- counts as much, s doesn't stand after t in the table
abbrev pub IsNearer : Symbol → ℕ → Symbol → ℕ → Type 0
IsNearer s i t j = (t.st_value < s.st_value) ⊎ ((t.st_value ≡ s.st_value) × ((precedence t < precedence s) ⊎ ((precedence t ≡ precedence s) × (i ≤ j))))

-- it stands in the table, the address lies in its function, and no other one in which the address lies is nearer
pub record IsNearest (symbols : List Symbol) (a : ℕ) (s : Symbol) : Type 0 where
  pub index : ℕ
  pub stands : slice_get symbols index ≡ Some s
  pub inside : holds a s ≡ true
  pub nearest : (j : ℕ) (t : Symbol) → slice_get symbols j ≡ Some t → holds a t ≡ true → IsNearer s index t j
