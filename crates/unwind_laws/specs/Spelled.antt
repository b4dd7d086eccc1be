-- A number that is read from the front of a table's bytes.
use Rattle.std.specs.Prelude.{◌≡◌, ℕ, ◌+◌, ◌<◌, List, ◌++◌, length}
use Rattle.std.specs.List.{AllByRecursion}
use Rattle.unwind_definitions.specs.Input.{Input}
use Rattle.unwind_definitions.specs.Numbers.{SpellsUnsigned, SpellsSigned}

-- each is a byte
abbrev pub AreBytes : List ℕ → Type 0
AreBytes bytes = AllByRecursion (λ b. b < 256) bytes

-- one input begins with bytes, and the other is what follows them
pub record Follows (c : Input) (bytes : List ℕ) (d : Input) : Type 0 where
  pub base : d.base ≡ c.base
  pub offset : d.offset ≡ c.offset + length bytes
  pub parts : c.bytes ≡ bytes ++ d.bytes

-- an input begins with bytes that spell a number
pub record BeginsUnsigned (c : Input) (n : ℕ) (d : Input) : Type 0 where
  pub bytes : List ℕ
  pub follows : Follows c bytes d
  pub spells : SpellsUnsigned bytes n

pub record BeginsSigned (c : Input) (n : ℕ) (d : Input) : Type 0 where
  pub bytes : List ℕ
  pub follows : Follows c bytes d
  pub spells : SpellsSigned bytes n
