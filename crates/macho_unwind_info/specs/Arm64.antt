-- The opcodes of arm64: what the bits mean, and how they are printed.
use Rattle.std.specs.Prelude.{ℕ, zero, suc, ◌+◌, ◌*◌, Bool, false, List, [], ◌∷◌, ◌++◌, codes, decimal, count_ones, ◌==◌, if◌then◌else◌}
use Rattle.std.specs.Fmt.{digits}
use Rattle.macho_unwind_info.specs.Bits.{bits}
use Rattle.macho_unwind_info.specs.declared.opcodes.arm64.Pair.{Pair}
use Rattle.macho_unwind_info.specs.declared.opcodes.arm64.OpcodeArm64.{OpcodeArm64}
use Rattle.macho_unwind_info.specs.declared.opcodes.arm64.OpcodeArm64.TheVariants.{Null, Frameless, Dwarf, FrameBased, UnrecognizedKind}

-- ---- opcodes
-- whether the pair of a bit was pushed
abbrev pub is_saved : ℕ → ℕ → Bool
is_saved word bit = bits word bit 1 == 1

-- how many of the nine pairs were pushed, and then bits 8 to 0: d14 and d15, d12 and d13, d10 and d11, d8 and d9, x27 and x28 down to x19 and x20
abbrev pub frame_based : ℕ → OpcodeArm64
frame_based word =
    FrameBased (count_ones (bits word 0 9)) (is_saved word 8) (is_saved word 7) (is_saved word 6) (is_saved word 5)
    (is_saved word 4) (is_saved word 3) (is_saved word 2) (is_saved word 1) (is_saved word 0)

abbrev pub opcode_of_kind : ℕ → ℕ → OpcodeArm64
opcode_of_kind word kind =
    if kind == 0 then Null
    else (if kind == 2 then Frameless (bits word 12 12 * 16)
    else (if kind == 3 then Dwarf (bits word 0 24)
    else (if kind == 4 then frame_based word
    else UnrecognizedKind kind)))

abbrev pub opcode_of : ℕ → OpcodeArm64
opcode_of word = opcode_of_kind word (bits word 24 4)

-- ---- text
-- the stack pointer so far below the CFA
abbrev pub size_text : ℕ → List ℕ
size_text zero = codes "CFA=reg31"
size_text (suc n) = codes "CFA=reg31+" ++ decimal (suc n)

-- a register in the word so far below the CFA
abbrev pub slot_text : ℕ → ℕ → List ℕ
slot_text register below = codes ", reg" ++ (decimal register ++ (codes "=[CFA-" ++ (decimal below ++ codes "]")))

-- a register and the next one
abbrev pub pair_text : ℕ → ℕ → List ℕ
pair_text register below = slot_text register below ++ slot_text (register + 1) (below + 8)

-- the pairs that were pushed, each 16 farther below the CFA than the one before
abbrev pub pairs_text : ℕ → List Pair → List ℕ
pairs_text below [] = []
pairs_text below (pair ∷ pairs) = if pair.saved then pair_text pair.register below ++ pairs_text (below + 16) pairs else pairs_text below pairs

abbrev pub pair_of : ℕ → Bool → Pair
pair_of register saved = record { saved = saved; register = register }

abbrev pub frame_text : List Pair → List ℕ
frame_text pairs = codes "CFA=reg29+16: reg29=[CFA-16], reg30=[CFA-8]" ++ pairs_text 32 pairs

abbrev pub text_of : OpcodeArm64 → List ℕ
text_of Null = codes "(uncovered)"
text_of (Frameless size) = size_text size
text_of (Dwarf entry) = codes "(check eh_frame FDE 0x" ++ (digits 16 false entry ++ codes ")")
text_of (FrameBased count d14 d12 d10 d8 x27 x25 x23 x21 x19) =
    frame_text (pair_of 14 d14 ∷ pair_of 12 d12 ∷ pair_of 10 d10 ∷ pair_of 8 d8 ∷ pair_of 27 x27 ∷ pair_of 25 x25 ∷ pair_of 23 x23 ∷ pair_of 21 x21 ∷ pair_of 19 x19 ∷ [])
text_of (UnrecognizedKind kind) = codes "!! Unrecognized kind " ++ decimal kind
