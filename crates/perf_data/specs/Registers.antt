-- The user's registers in a sample of x86-64: Linux's arch/x86/include/uapi/asm/perf_regs.h numbers them AX BX CX DX SI DI BP SP IP
-- FLAGS CS SS DS ES FS GS and R8 to R15, and a sample has a word for each bit of sample_regs_user that is set, the lowest first.
use Rattle.std.specs.Prelude.{ℕ, ◌*◌, ◌%◌, ◌^◌, List, [], ◌∷◌, map, Option, Some, None, count_ones, if◌then◌else◌}
use Rattle.memory_image.specs.Words.{u64_at}
use Rattle.unwind_arch.specs.declared.x86_64.Context.{Context}
use Rattle.perf_data.specs.Layouts.{has_bits}

-- which registers there are, and their words; and the form of the program, of 32 bits (1) or of 64 (2)
pub record RegisterWords : Type 0 where
  pub abi : ℕ
  pub mask : ℕ
  pub words : List ℕ

-- a register by its number
abbrev pub register_of : RegisterWords → ℕ → Option ℕ
register_of registers number = if has_bits registers.mask (2 ^ number) then Some (u64_at registers.words (8 * count_ones (registers.mask % 2 ^ number))) else None

-- the same, 0 where it isn't there
abbrev pub register_or_zero : Option ℕ → ℕ
register_or_zero None = 0
register_or_zero (Some word) = word

-- the numbers of RAX, RDX, RCX, RBX, RSI, RDI, RBP, RSP and R8 to R15, the order of their columns, and that of RIP
abbrev pub numbers : List ℕ
numbers = 0 ∷ 3 ∷ 2 ∷ 1 ∷ 4 ∷ 5 ∷ 6 ∷ 7 ∷ 16 ∷ 17 ∷ 18 ∷ 19 ∷ 20 ∷ 21 ∷ 22 ∷ 23 ∷ []

abbrev pub instruction_pointer : ℕ
instruction_pointer = 8

-- the registers by their columns; the control registers are 0
abbrev pub context_of : RegisterWords → Context
context_of registers = record {
  registers = map (λ number. register_or_zero (register_of registers number)) numbers;
  ra = register_or_zero (register_of registers instruction_pointer);
  mcxsr = 0;
  fcw = 0;
}
