-- What is unwound: a machine's registers, and the words of its stack.
use Rattle.std.specs.Prelude.{ℕ, ◌+◌, ◌-◌, ◌%◌, ◌^◌, Option, Some, None, Result, Ok, Err, ◌==◌, if◌then◌else◌}
use Rattle.pe_unwind_info.specs.declared.x86_64.fault.FrameFault.{FrameFault}
use Rattle.pe_unwind_info.specs.declared.x86_64.fault.FrameFault.TheVariants.{Stack as StackFault}

-- a map with another value at one key
abbrev pub map_with : {V : Type 0} → (ℕ → V) → ℕ → V → ℕ → V
map_with map key value k = if k == key then value else map k

-- the general purpose registers and the XMM registers, by their numbers
pub record Registers : Type 0 where
  pub general : ℕ → ℕ
  pub xmm : ℕ → ℕ

abbrev pub registers_of : (ℕ → ℕ) → (ℕ → ℕ) → Registers
registers_of general xmm = record { general = general; xmm = xmm }

-- the word at an address of the stack, where there is one
abbrev pub Stack : Type 0
Stack = ℕ → Option ℕ

abbrev pub with_general : ℕ → ℕ → Registers → Registers
with_general r v regs = record { general = map_with regs.general r v; xmm = regs.xmm }

abbrev pub with_xmm : ℕ → ℕ → Registers → Registers
with_xmm r v regs = record { general = regs.general; xmm = map_with regs.xmm r v }

-- the stack pointer is register 4
abbrev pub stack_pointer : Registers → ℕ
stack_pointer regs = regs.general 4

abbrev pub with_stack_pointer : ℕ → Registers → Registers
with_stack_pointer v regs = with_general 4 v regs

-- sums and differences of words
abbrev pub plus : ℕ → ℕ → ℕ
plus a b = (a + b) % 2 ^ 64

abbrev pub less : ℕ → ℕ → ℕ
less a b = (a + (2 ^ 64 - b)) % 2 ^ 64

-- a frame's return address with the caller's registers, or a fault with the registers as they were written before it
pub data FrameEnd : Type 0 where
  Returned : ℕ → Registers → FrameEnd
  Faulted : FrameFault → Registers → FrameEnd

-- what is left to be unwound goes on with these registers, or the frame has ended
pub data After : Type 0 where
  Goes : Registers → After
  Ends : FrameEnd → After

-- the word at an address of the stack, or a fault where there is none
abbrev pub word_or : ℕ → Option ℕ → Result ℕ FrameFault
word_or a None = Err (StackFault a)
word_or a (Some v) = Ok v

abbrev pub word_or_fault : Stack → ℕ → Result ℕ FrameFault
word_or_fault stack a = word_or a (stack a)

abbrev pub with_word : Result ℕ FrameFault → Registers → (ℕ → After) → After
with_word (Ok v) regs later = later v
with_word (Err fault) regs later = Ends (Faulted fault regs)

-- pops a register: the word at the stack pointer is written to it, and then the stack pointer
abbrev pub pop_into : Stack → ℕ → Registers → After
pop_into stack r regs =
    with_word (word_or_fault stack (stack_pointer regs)) regs (λ v. Goes (with_stack_pointer (plus (stack_pointer regs) 8) (with_general r v regs)))

-- pops the return address
abbrev pub returned_or : Registers → Result ℕ FrameFault → FrameEnd
returned_or regs (Ok v) = Returned v (with_stack_pointer (plus (stack_pointer regs) 8) regs)
returned_or regs (Err fault) = Faulted fault regs

abbrev pub pop_return : Stack → Registers → FrameEnd
pop_return stack regs = returned_or regs (word_or_fault stack (stack_pointer regs))

abbrev pub then_goes : After → (Registers → After) → After
then_goes (Goes regs) later = later regs
then_goes (Ends end) later = Ends end

abbrev pub then_ends : After → (Registers → FrameEnd) → FrameEnd
then_ends (Goes regs) later = later regs
then_ends (Ends end) later = end

-- what a call has answered, with the registers that it left
abbrev pub done : Result Unit FrameFault → Registers → After
done (Ok u) regs = Goes regs
done (Err fault) regs = Ends (Faulted fault regs)

abbrev pub frame_end : Result ℕ FrameFault → Registers → FrameEnd
frame_end (Ok address) regs = Returned address regs
frame_end (Err fault) regs = Faulted fault regs
