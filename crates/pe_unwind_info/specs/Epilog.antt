-- How an instruction of an epilog is read from bytes. What bytes spell which instruction is said by cases in the grammar, `EpilogGrammar`; this is the same as a function.
use Rattle.std.specs.Prelude.{ℕ, zero, suc, ◌+◌, ◌*◌, ◌/◌, ◌%◌, Bool, true, false, ◌&&◌, ◌||◌, List, [], ◌∷◌, Option, Some, None, Result, Ok, Err, ◌==◌, if◌then◌else◌}
use Rattle.pe_unwind_info.specs.declared.x86_64.registers.Register.{Register}
use Rattle.pe_unwind_info.specs.declared.x86_64.epilog.FunctionEpilogInstruction.{FunctionEpilogInstruction}
use Rattle.pe_unwind_info.specs.declared.x86_64.epilog.FunctionEpilogInstruction.TheVariants.{AddSP, AddSPFromFP, Pop}
use Rattle.pe_unwind_info.specs.declared.x86_64.epilog.InstructionParseError.{InstructionParseError}
use Rattle.pe_unwind_info.specs.declared.x86_64.epilog.InstructionParseError.TheVariants.{NotEnoughData, InvalidInstruction, TooManyInstructions}
use Rattle.pe_unwind_info.specs.Numbers.{first_u32}
use Rattle.pe_unwind_info.specs.Registers.{register_number, register_of}
pub use Rattle.memory_image.specs.Results.{result_map}

-- an instruction with the bytes after it, or why there is none
abbrev pub Read : Type 0
Read = Result (FunctionEpilogInstruction × List ℕ) InstructionParseError

-- the same, or a terminator
abbrev pub Parsed : Type 0
Parsed = Result (Option (FunctionEpilogInstruction × List ℕ)) InstructionParseError

-- a number of four bytes with the bytes after it
abbrev pub word_in : Option (ℕ × List ℕ) → Result (ℕ × List ℕ) InstructionParseError
word_in None = Err NotEnoughData
word_in (Some p) = Ok p

abbrev pub with_word : (ℕ → FunctionEpilogInstruction) → List ℕ → Read
with_word instruction bytes = result_map (λ (p : ℕ × List ℕ). (instruction p.0, p.1)) (word_in (first_u32 bytes))

-- a `lea` of the stack pointer from a base register: its ModRM byte, and what stands after it
abbrev pub lea_from : ℕ → List ℕ → Read
lea_from base (modrm ∷ next ∷ rest) =
    if modrm % 64 == 32 + base % 8 then
    (if modrm / 64 == 1 then Ok (AddSPFromFP next, rest)
    else (if modrm / 64 == 2 then with_word AddSPFromFP (next ∷ rest)
    else Err InvalidInstruction))
    else Err InvalidInstruction
lea_from base _ = Err InvalidInstruction

-- a `lea` from the frame register, where the REX byte names it
abbrev pub lea_of : Option Register → ℕ → List ℕ → Option Read
lea_of None rex code = None
lea_of (Some base) rex code = if rex % 2 == register_number base / 8 then Some (lea_from (register_number base) code) else None

-- an `add` to the stack pointer or a `lea`, after a REX byte for operands of 64 bits
abbrev pub adjustment_of : Option Register → ℕ → List ℕ → Option Read
adjustment_of frame rex (opcode ∷ modrm ∷ next ∷ rest) =
    if (opcode == 0x81) && (modrm == 0xc4) then Some (with_word AddSP (next ∷ rest))
    else (if (opcode == 0x83) && (modrm == 0xc4) then Some (Ok (AddSP next, rest))
    else (if opcode == 0x8d then lea_of frame rex (modrm ∷ next ∷ rest) else None))
adjustment_of frame rex _ = None

-- a pop of the register that three bits and the lowest bit of a REX byte name
abbrev pub pop_of : ℕ → ℕ → FunctionEpilogInstruction
pop_of rex byte = Pop (register_of (byte % 8 + 8 * (rex % 2)))

-- a jump: by a distance, or by a word in memory
abbrev pub is_jump : ℕ → ℕ → Bool
is_jump opcode next = (opcode == 0xeb) || (opcode == 0xe9) || ((opcode == 0xff) && ((next / 8 == 4) || (next / 8 == 5)))

-- an opcode with the byte after it
abbrev pub two_bytes_of : ℕ → ℕ → List ℕ → Parsed
two_bytes_of rex opcode [] = Err InvalidInstruction
two_bytes_of rex opcode (next ∷ rest) =
    if (opcode == 0x8f) && (next / 8 == 24) then Ok (Some (pop_of rex next, rest))
    else (if is_jump opcode next then Ok None else Err InvalidInstruction)

-- a pop or a terminator, after a REX byte
abbrev pub pop_or_terminator_of : ℕ → List ℕ → Parsed
pop_or_terminator_of rex [] = Err InvalidInstruction
pop_or_terminator_of rex (opcode ∷ rest) =
    if opcode / 8 == 11 then Ok (Some (pop_of rex opcode, rest))
    else (if opcode == 0xc3 then Ok None else two_bytes_of rex opcode rest)

-- an adjustment of the stack pointer, where there is one
abbrev pub adjusted_or : Option Read → Parsed → Parsed
adjusted_or None later = later
adjusted_or (Some (Ok p)) later = Ok (Some p)
adjusted_or (Some (Err e)) later = Err e

abbrev pub after_rex : Option Register → Bool → ℕ → List ℕ → Parsed
after_rex frame allowed rex code = adjusted_or (if allowed && (rex / 8 == 1) then adjustment_of frame rex code else None) (pop_or_terminator_of rex code)

-- the low four bits of a REX byte, 0 where there is none, and what stands after it
abbrev pub rex_split : List ℕ → Option (ℕ × List ℕ)
rex_split [] = None
rex_split (first ∷ code) = if first / 16 == 4 then Some (first % 16, code) else Some (0, first ∷ code)

abbrev pub split_after : Option Register → Bool → Option (ℕ × List ℕ) → Parsed
split_after frame allowed None = Err NotEnoughData
split_after frame allowed (Some (rex, code)) = after_rex frame allowed rex code

-- one instruction, perhaps after a REX byte
unfoldable pub parsed_instruction : Option Register → Bool → List ℕ → Parsed
parsed_instruction frame allowed bytes = split_after frame allowed (rex_split bytes)

-- ---- instructions up to a terminator
abbrev pub Sequence : Type 0
Sequence = Result (List FunctionEpilogInstruction) InstructionParseError

abbrev pub and_first : FunctionEpilogInstruction → Sequence → Sequence
and_first instruction = result_map (λ later. instruction ∷ later)

abbrev pub then_full : Parsed → Sequence
then_full (Ok (Some p)) = Err TooManyInstructions
then_full (Ok None) = Ok []
then_full (Err e) = Err e

abbrev pub then_more : Parsed → (List ℕ → Sequence) → Sequence
then_more (Ok (Some (instruction, rest))) later = and_first instruction (later rest)
then_more (Ok None) later = Ok []
then_more (Err e) later = Err e

-- at most so many instructions and a terminator; the first may adjust the stack pointer where that is allowed
unfoldable pub sequence_from : Option Register → ℕ → Bool → List ℕ → Sequence
sequence_from frame zero allowed bytes = then_full (parsed_instruction frame allowed bytes)
sequence_from frame (suc n) allowed bytes = then_more (parsed_instruction frame allowed bytes) (sequence_from frame n false)

-- the instructions of an epilog, at most twelve before its terminator
abbrev pub sequence_of : Option Register → List ℕ → Sequence
sequence_of frame bytes = sequence_from frame 12 true bytes
