-- A relative pointer is read as what its bytes spell.
use Rattle.std.proofs.Common.{◌≡◌, ℕ, ◌+◌, ◌%◌, ◌^◌, List, ◌++◌, length, take, drop, Result, Ok, refl, sym, ap, ◌∙◌, arith}
use Rattle.std.specs.Int.{w32, from_le_bytes}
use Rattle.std.proofs.lemmas.Bool.{le-ltb}
use Rattle.std.proofs.Common.{length-append}
use Rattle.std.proofs.Math.Seq.{take-append_seam, drop-append_seam}
use Rattle.unwind_definitions.specs.declared.error.Error.{Error as Fault}
use Rattle.unwind_definitions.specs.Input.{Input, address_of, number, signed_word}
use Rattle.unwind_definitions.specs.Pointers.{Bases, direct}
use Rattle.unwind_definitions.specs.Numbers.{SpellsRelative}
use Rattle.unwind_laws.specs.Spelled.{Follows}

abbrev input : ℕ → ℕ → List ℕ → Input
input base offset bytes = record { base = base; offset = offset; bytes = bytes }

abbrev read : ℕ → Input → Result (ℕ × Input) Fault
read n d = Ok (n, d)

four : (c d : Input) (bytes : List ℕ) → Follows c bytes d → length bytes ≡ 4 → number w32 c ≡ read (from_le_bytes w32 bytes) d
four c d bytes follows size =
    let longer : length c.bytes ≡ length bytes + length d.bytes = ap length follows.parts ∙ length-append bytes d.bytes in
    let front : take 4 c.bytes ≡ bytes = ap (take 4) follows.parts ∙ ap (λ n. take n (bytes ++ d.bytes)) (sym size) ∙ take-append_seam bytes d.bytes in
    let back : drop 4 c.bytes ≡ d.bytes = ap (drop 4) follows.parts ∙ ap (λ n. drop n (bytes ++ d.bytes)) (sym size) ∙ drop-append_seam bytes d.bytes in
    let offset : c.offset + 4 ≡ d.offset = ap (λ n. c.offset + n) (sym size) ∙ sym follows.offset in
    rw (le-ltb (length c.bytes) 4 (omega arith))
    (ap (λ (l : List ℕ). read (from_le_bytes w32 l) (input c.base (c.offset + 4) (drop 4 c.bytes))) front
    ∙ ap (λ (l : List ℕ). read (from_le_bytes w32 bytes) (input c.base (c.offset + 4) l)) back
    ∙ ap (λ n. read (from_le_bytes w32 bytes) (input c.base n d.bytes)) offset
    ∙ ap (λ n. read (from_le_bytes w32 bytes) (input n d.offset d.bytes)) (sym follows.base))

-- what a relative pointer makes of its number
pointer_is : (bases : Bases) (c d : Input) (n : ℕ) → number w32 c ≡ read n d → direct 0x1b bases c ≡ read ((address_of c + signed_word 32 n) % 2 ^ 64) d
pointer_is bases c d n e = rw e refl

pub relative_read : (bases : Bases) (c d : Input) (bytes : List ℕ) (to : ℕ) → Follows c bytes d → SpellsRelative bytes (address_of c) to → direct 0x1b bases c ≡ Ok (to, d)
relative_read bases c d bytes to follows spells = pointer_is bases c d (from_le_bytes w32 bytes) (four c d bytes follows spells.size) ∙ ap (λ k. read k d) (sym spells.number)
