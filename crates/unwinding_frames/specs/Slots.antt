-- The words that a caller's registers are saved in, where all lie close below the CFA. No public clause of a walk cites this.
use Rattle.std.specs.Prelude.{◌≡◌, ℕ, ◌+◌, ◌-◌, ◌%◌, ◌^◌, ◌<◌, ◌≤◌, List, length, Some}
use Rattle.memory_image.specs.Image.{Span, word_at}
use Rattle.memory_image.specs.Words.{u64_at}

-- These are so many bytes below an address: at each offset below it whose word lies among them, as words that wrap, the memory has that word.
pub record AreSlots (image : List Span) (address size : ℕ) (slots : List ℕ) : Type 0 where
  pub some : 0 < size
  pub whole : length slots ≡ size
  pub words : (n : ℕ) → 2 ^ 64 ≤ n + size → n + 8 ≤ 2 ^ 64 → word_at image ((address + n) % 2 ^ 64) ≡ Some (u64_at slots (n + size - 2 ^ 64))
