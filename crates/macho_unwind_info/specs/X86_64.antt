-- The opcodes of x86-64: what the bits mean, and how they are printed.
use Rattle.std.specs.Prelude.{ℕ, ◌+◌, ◌*◌, ◌/◌, List, [], ◌∷◌, ◌++◌, map, reverse, take, Option, Some, None, codes, decimal, ◌==◌, if◌then◌else◌}
use Rattle.std.specs.Fmt.{digits}
use Rattle.std.specs.Prelude.{false}
use Rattle.macho_unwind_info.specs.Bits.{bits}
use Rattle.macho_unwind_info.specs.Permutation.{permutation}
use Rattle.macho_unwind_info.specs.RegisterText.{frame_text, fields_text, return_text, registers_text, size_text, indirect_text}
use Rattle.macho_unwind_info.specs.declared.opcodes.x86_64.RegisterNameX86_64.{RegisterNameX86_64}
use Rattle.macho_unwind_info.specs.declared.opcodes.x86_64.RegisterNameX86_64.TheVariants.{Rbx, R12, R13, R14, R15, Rbp}
use Rattle.macho_unwind_info.specs.declared.opcodes.x86_64.OpcodeX86_64.{OpcodeX86_64}
use Rattle.macho_unwind_info.specs.declared.opcodes.x86_64.OpcodeX86_64.TheVariants.{Null, FrameBased, FramelessImmediate, FramelessIndirect, Dwarf, InvalidFrameless, UnrecognizedKind}

-- ---- registers
abbrev pub register_of : ℕ → Option RegisterNameX86_64
register_of n =
    if n == 1 then Some Rbx
    else (if n == 2 then Some R12
    else (if n == 3 then Some R13
    else (if n == 4 then Some R14
    else (if n == 5 then Some R15
    else (if n == 6 then Some Rbp else None)))))

-- by their numbers in DWARF
abbrev pub name_of : RegisterNameX86_64 → List ℕ
name_of Rbx = codes "reg3"
name_of R12 = codes "reg12"
name_of R13 = codes "reg13"
name_of R14 = codes "reg14"
name_of R15 = codes "reg15"
name_of Rbp = codes "reg6"

-- ---- opcodes
-- the five fields of three bits, the highest first
abbrev pub fields_of : ℕ → List (Option RegisterNameX86_64)
fields_of word = register_of (bits word 12 3) ∷ register_of (bits word 9 3) ∷ register_of (bits word 6 3) ∷ register_of (bits word 3 3) ∷ register_of (bits word 0 3) ∷ []

-- an opcode with the list of registers that its count and its number spell
abbrev pub with_registers : (List (Option RegisterNameX86_64) → OpcodeX86_64) → Option (List ℕ) → OpcodeX86_64
with_registers make None = InvalidFrameless
with_registers make (Some numbers) = make (map register_of numbers)

abbrev pub opcode_of_kind : ℕ → ℕ → OpcodeX86_64
opcode_of_kind word kind =
    if kind == 0 then Null
    else (if kind == 1 then FrameBased (bits word 16 8 * 8) (fields_of word)
    else (if kind == 2 then with_registers (FramelessImmediate (bits word 16 8 * 8)) (permutation (bits word 10 3) (bits word 0 10))
    else (if kind == 3 then with_registers (FramelessIndirect (bits word 16 8) (bits word 13 3 * 8)) (permutation (bits word 10 3) (bits word 0 10))
    else (if kind == 4 then Dwarf (bits word 0 24)
    else UnrecognizedKind kind))))

abbrev pub opcode_of : ℕ → OpcodeX86_64
opcode_of word = opcode_of_kind word (bits word 24 4)

-- ---- text
-- the fields that have a slot, from the lowest up
abbrev pub frame_based_text : ℕ → List (Option RegisterNameX86_64) → List ℕ
frame_based_text offset saved = frame_text 8 ++ fields_text name_of 8 (offset + 16) (take (offset / 8) (reverse saved))

-- the registers from the last one back
abbrev pub frameless_text : List (Option RegisterNameX86_64) → List ℕ
frameless_text saved = return_text 8 ++ registers_text name_of 8 16 (reverse saved)

abbrev pub text_of : OpcodeX86_64 → List ℕ
text_of Null = codes "(uncovered)"
text_of (FrameBased offset saved) = frame_based_text offset saved
text_of (FramelessImmediate size saved) = size_text size ++ frameless_text saved
text_of (FramelessIndirect after added saved) = indirect_text after added ++ frameless_text saved
text_of (Dwarf entry) = codes "(check eh_frame FDE 0x" ++ (digits 16 false entry ++ codes ")")
text_of InvalidFrameless = codes "!! frameless immediate or indirect with invalid permutation encoding"
text_of (UnrecognizedKind kind) = codes "!! Unrecognized kind " ++ decimal kind
