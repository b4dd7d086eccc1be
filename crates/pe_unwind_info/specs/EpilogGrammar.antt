-- The grammar of epilogs: which bytes spell which instruction, by cases.
use Rattle.std.specs.Prelude.{◌≡◌, ℕ, ◌+◌, ◌*◌, ◌/◌, ◌%◌, ◌<◌, ◌≤◌, ◌⊎◌, ◌≢◌, ◌↔◌, Bool, true, false, List, [], ◌∷◌, ◌++◌, length, Option, Some, None, Ok, Err, ◌==◌}
use Rattle.pe_unwind_info.specs.declared.x86_64.registers.Register.{Register}
use Rattle.pe_unwind_info.specs.declared.x86_64.epilog.FunctionEpilogInstruction.{FunctionEpilogInstruction}
use Rattle.pe_unwind_info.specs.declared.x86_64.epilog.FunctionEpilogInstruction.TheVariants.{AddSP, AddSPFromFP, Pop}
use Rattle.pe_unwind_info.specs.declared.x86_64.epilog.InstructionParseError.TheVariants.{NotEnoughData, TooManyInstructions}
use Rattle.pe_unwind_info.specs.Epilog.{Parsed, Sequence}
use Rattle.pe_unwind_info.specs.Numbers.{u32_at}
use Rattle.pe_unwind_info.specs.Registers.{register_number, register_of}

-- a REX byte, 40 to 4f, and one for operands of 64 bits, 48 to 4f
pub record IsRex (byte : ℕ) : Type 0 where
  pub high : byte / 16 ≡ 4

pub record IsRexW (byte : ℕ) : Type 0 where
  pub high : byte / 8 ≡ 9

-- a REX byte or none, with the bit that it puts above the three that name a register
pub data IsPrefix : List ℕ → ℕ → Type 0 where
  no_rex : IsPrefix [] 0
  one_rex : {byte : ℕ} → IsRex byte → IsPrefix (byte ∷ []) (byte % 2)

-- a REX byte for operands of 64 bits that puts the highest bit of the frame register's number above three others
pub record NamesFrame (frame : Option Register) (rex : ℕ) (base : Register) : Type 0 where
  pub is_frame : frame ≡ Some base
  pub wide : IsRexW rex
  pub bit : rex % 2 ≡ register_number base / 8

-- The bytes of an instruction. The stack pointer may be adjusted where that is allowed: by `add`, or by `lea` from the frame register, with a number of one byte or of four.
pub data IsInstruction (frame : Option Register) : Bool → List ℕ → FunctionEpilogInstruction → Type 0 where
  add_word : {rex n0 n1 n2 n3 : ℕ} → IsRexW rex → IsInstruction frame true (rex ∷ 0x81 ∷ 0xc4 ∷ n0 ∷ n1 ∷ n2 ∷ n3 ∷ []) (AddSP (u32_at 0 (n0 ∷ n1 ∷ n2 ∷ n3 ∷ [])))
  add_byte : {rex n : ℕ} → IsRexW rex → IsInstruction frame true (rex ∷ 0x83 ∷ 0xc4 ∷ n ∷ []) (AddSP n)
  lea_byte : {rex n : ℕ} {base : Register} → NamesFrame frame rex base → IsInstruction frame true (rex ∷ 0x8d ∷ (0x60 + register_number base % 8) ∷ n ∷ []) (AddSPFromFP n)
  lea_word : {rex n0 n1 n2 n3 : ℕ} {base : Register} → NamesFrame frame rex base →
      IsInstruction frame true (rex ∷ 0x8d ∷ (0xa0 + register_number base % 8) ∷ n0 ∷ n1 ∷ n2 ∷ n3 ∷ []) (AddSPFromFP (u32_at 0 (n0 ∷ n1 ∷ n2 ∷ n3 ∷ [])))
  pop : {allowed : Bool} {prefix : List ℕ} {bit : ℕ} → IsPrefix prefix bit → (opcode : ℕ) → opcode / 8 ≡ 11 →
      IsInstruction frame allowed (prefix ++ opcode ∷ []) (Pop (register_of (opcode % 8 + 8 * bit)))
  pop_long : {allowed : Bool} {prefix : List ℕ} {bit : ℕ} → IsPrefix prefix bit → (modrm : ℕ) → modrm / 8 ≡ 24 →
      IsInstruction frame allowed (prefix ++ 0x8f ∷ modrm ∷ []) (Pop (register_of (modrm % 8 + 8 * bit)))

-- The bytes of a terminator, as far as they are looked at: a return, a jump by a distance, or one by a word in memory.
pub data IsTerminator : List ℕ → Type 0 where
  ret : {prefix : List ℕ} {bit : ℕ} → IsPrefix prefix bit → IsTerminator (prefix ++ 0xc3 ∷ [])
  short_jump : {prefix : List ℕ} {bit : ℕ} → IsPrefix prefix bit → (next : ℕ) → IsTerminator (prefix ++ 0xeb ∷ next ∷ [])
  near_jump : {prefix : List ℕ} {bit : ℕ} → IsPrefix prefix bit → (next : ℕ) → IsTerminator (prefix ++ 0xe9 ∷ next ∷ [])
  memory_jump : {prefix : List ℕ} {bit : ℕ} → IsPrefix prefix bit → (modrm : ℕ) → (modrm / 8 ≡ 4) ⊎ (modrm / 8 ≡ 5) → IsTerminator (prefix ++ 0xff ∷ modrm ∷ [])

-- bytes that begin with an instruction, and those that begin with a terminator
abbrev pub BeginsWith : Option Register → Bool → List ℕ → FunctionEpilogInstruction → List ℕ → Type 0
BeginsWith frame allowed bytes instruction rest = (code : List ℕ) × (bytes ≡ code ++ rest) × IsInstruction frame allowed code instruction

abbrev pub BeginsWithTerminator : List ℕ → Type 0
BeginsWithTerminator bytes = (code : List ℕ) × (rest : List ℕ) × (bytes ≡ code ++ rest) × IsTerminator code

-- no bytes, or one to three bytes of a number of four
pub data IsCut (frame : Option Register) : Bool → List ℕ → Type 0 where
  empty : {allowed : Bool} → IsCut frame allowed []
  add_cut : {rex : ℕ} {number : List ℕ} → IsRexW rex → 1 ≤ length number → length number < 4 → IsCut frame true (rex ∷ 0x81 ∷ 0xc4 ∷ number)
  lea_cut : {rex : ℕ} {base : Register} {number : List ℕ} → NamesFrame frame rex base → 1 ≤ length number → length number < 4 →
      IsCut frame true (rex ∷ 0x8d ∷ (0xa0 + register_number base % 8) ∷ number)

-- bytes that spell these instructions one after another, of which the first alone may adjust the stack pointer, and what stands after them
abbrev pub IsRun : Option Register → Bool → List ℕ → List FunctionEpilogInstruction → List ℕ → Type 0
IsRun frame allowed bytes [] rest = bytes ≡ rest
IsRun frame allowed bytes (instruction ∷ later) rest = (after : List ℕ) × BeginsWith frame allowed bytes instruction after × IsRun frame false after later rest

-- bytes that begin with an epilog of these instructions before its terminator
abbrev pub IsEpilog : Option Register → List ℕ → List FunctionEpilogInstruction → Type 0
IsEpilog frame bytes instructions = (rest : List ℕ) × IsRun frame true bytes instructions rest × BeginsWithTerminator rest

-- bytes that begin with so many instructions
abbrev pub HasInstructions : Option Register → List ℕ → ℕ → Type 0
HasInstructions frame bytes n = (instructions : List FunctionEpilogInstruction) × (rest : List ℕ) × (length instructions ≡ n) × IsRun frame true bytes instructions rest

-- bytes that are cut after at most so many instructions
abbrev pub IsCutWithin : Option Register → List ℕ → ℕ → Type 0
IsCutWithin frame bytes n =
    (instructions : List FunctionEpilogInstruction) × (rest : List ℕ) × (length instructions ≤ n) × IsRun frame true bytes instructions rest × IsCut frame (length instructions == 0) rest

-- what may be answered for one instruction: it, a terminator, that bytes are missing, or that there is no such instruction
pub record IsParsed (frame : Option Register) (allowed : Bool) (bytes : List ℕ) (answer : Parsed) : Type 0 where
  pub instruction : (i : FunctionEpilogInstruction) (rest : List ℕ) → (answer ≡ Ok (Some (i, rest))) ↔ BeginsWith frame allowed bytes i rest
  pub terminator : (answer ≡ Ok None) ↔ BeginsWithTerminator bytes
  pub cut : (answer ≡ Err NotEnoughData) ↔ IsCut frame allowed bytes
  pub one : answer ≢ Err TooManyInstructions

-- what may be answered for a sequence: the instructions of an epilog, at most twelve, that there is a thirteenth, that bytes are missing, or that there is no such instruction
pub record IsSequence (frame : Option Register) (bytes : List ℕ) (answer : Sequence) : Type 0 where
  pub epilog : (instructions : List FunctionEpilogInstruction) → (answer ≡ Ok instructions) ↔ ((length instructions ≤ 12) × IsEpilog frame bytes instructions)
  pub too_many : (answer ≡ Err TooManyInstructions) ↔ HasInstructions frame bytes 13
  pub cut : (answer ≡ Err NotEnoughData) ↔ IsCutWithin frame bytes 12
