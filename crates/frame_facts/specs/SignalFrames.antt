-- What is known of a signal's frame, that of the code to which a signal's handler returns, such as __restore_rt of the GNU C library:
-- where the words lie in which the kernel keeps the registers of the state that the signal interrupted.
-- System V x86-64 psABI, the table of DWARF register numbers; Linux, struct rt_sigframe, struct ucontext and struct sigcontext for
-- x86-64; DWARF 5 sections 2.5 and 6.4.2 for rules by expressions; the augmentation letter S of GCC for a signal's frame.
use Rattle.std.specs.Prelude.{◌≡◌, ◌≢◌, ◌⊎◌, ℕ, ◌+◌, ◌^◌, ◌<◌, Bool, true, List, [], ◌∷◌, length, Option, Some, None, Ok, IsTrue, IsFalse}
use Rattle.std.specs.List.{Contains, AllByRecursion}
use Rattle.memory_image.specs.Image.{Span, word_at}
use Rattle.unwind_definitions.specs.Columns as column
use Rattle.unwind_definitions.specs.Input.{Input}
use Rattle.unwind_definitions.specs.State.{CalleeSaved, RBX, RBP, R12, R13, R14, R15, State, IsState, column_of, value_of, is_followed}
use Rattle.unwind_definitions.specs.Instructions.{Rule, Expression}
use Rattle.unwind_definitions.specs.Entries.{Fde}
use Rattle.unwind_definitions.specs.Row.{RowInstructions, ByExpression, rule_of, cfa_rule, covers_pc}
use Rattle.unwind_definitions.specs.Operations.{Operation, PushColumn, Load, operation}
use Rattle.unwind_definitions.specs.Expressions.{rest_at}
use Rattle.unwind_definitions.specs.Scan.{fdes_of}
use Rattle.unwind_definitions.specs.DescribedRows.{HasRow}
use Rattle.unwind_definitions.specs.Module.{Module, Process, in_module, bases_of}
use Rattle.frame_facts.specs.FactTables.{HasTables}
use Rattle.frame_facts.specs.FactChains.{address_asked}

-- a general register, by its column, and the distance of the first byte of its word above the stack pointer
pub record WordAbove : Type 0 where
  pub register : ℕ
  pub distance : ℕ

-- How far above the stack pointer the words lie that hold what the interrupted state had in its instruction pointer, its stack pointer
-- and its callee-saved registers; and the words of other general registers that are kept.
pub record SignalFrame : Type 0 where
  pub rip : ℕ
  pub rsp : ℕ
  pub registers : CalleeSaved → ℕ
  pub others : List WordAbove

-- ---- the frame that Linux makes

-- At the code to which a handler returns, the stack pointer is that of struct ucontext, as the return address, which is the first
-- word of struct rt_sigframe, has been taken. In it struct sigcontext begins at 40: R8 to R15, RDI, RSI, RBP, RBX, RDX, RAX, RCX, RSP
-- and RIP, each of eight bytes.
abbrev pub linux_register : CalleeSaved → ℕ
linux_register R12 = 72
linux_register R13 = 80
linux_register R14 = 88
linux_register R15 = 96
linux_register RBP = 120
linux_register RBX = 128

abbrev pub word_above : ℕ → ℕ → WordAbove
word_above register distance = record { register = register; distance = distance }

-- R8 to R11, which are numbered alike, RDI, RSI, RDX, RAX and RCX
abbrev pub linux_others : List WordAbove
linux_others =
    word_above 8 40 ∷ word_above 9 48 ∷ word_above 10 56 ∷ word_above 11 64 ∷ word_above column.rdi 104 ∷ word_above column.rsi 112 ∷
    word_above column.rdx 136 ∷ word_above column.rax 144 ∷ word_above column.rcx 152 ∷ []

abbrev pub linux_signal_frame : SignalFrame
linux_signal_frame = record { rip = 168; rsp = 160; registers = linux_register; others = linux_others }

-- ---- states

-- the word so far above a state's stack pointer, no address of which wraps round, holds a value
abbrev pub HoldsAbove : List Span → State → ℕ → ℕ → Type 0
HoldsAbove image s n v = (s.sp + n < 2 ^ 64) × (word_at image (s.sp + n) ≡ Some v)

-- A state s stands in a signal's frame, and the signal interrupted t: the words are t's values, and those of other registers can be
-- read. Nothing is said of where t's stack pointer lies, as the handler may have run on an alternate stack.
pub record StandsInSignal (image : List Span) (frame : SignalFrame) (t s : State) : Type 0 where
  pub rip : HoldsAbove image s frame.rip t.ra
  pub rsp : HoldsAbove image s frame.rsp t.sp
  pub registers : (r : CalleeSaved) → HoldsAbove image s (frame.registers r) (value_of r t)
  pub others : AllByRecursion (λ (w : WordAbove). (v : ℕ) × HoldsAbove image s w.distance v) frame.others

-- ---- rows

-- the bytes of an expression are these operations from an offset on, one after another, up to the end
abbrev pub AreOperations : List ℕ → ℕ → List Operation → Type 0
AreOperations bytes offset [] = offset ≡ length bytes
AreOperations bytes offset (o ∷ os) = (next : Input) × (operation (rest_at bytes offset) ≡ Ok (o, next)) × AreOperations bytes next.offset os

-- a column's rule is that its value is the word so far above the stack pointer: by an expression for that word's address
abbrev pub FindsAbove : ℕ → Option Rule → Type 0
FindsAbove n rule = (bytes : List ℕ) × AreOperations bytes 0 (PushColumn column.rsp n ∷ []) × (rule ≡ Some (Expression bytes))

-- another column than a state's has no rule, or it is a general register that is found in its word
abbrev pub FindsOther : SignalFrame → ℕ → Option Rule → Type 0
FindsOther frame c rule = (rule ≡ None) ⊎ ((n : ℕ) × Contains frame.others (word_above c n) × (c < 16) × FindsAbove n rule)

-- A row says a signal's frame: its CFA is the interrupted stack pointer, by an expression that reads that word; the stack pointer
-- has no rule, which makes it the CFA, or finds the same word; and it finds the instruction pointer and the registers in theirs.
pub record SaysSignalFrame (frame : SignalFrame) (run : RowInstructions) : Type 0 where
  pub expression : List ℕ
  pub cfa : cfa_rule run ≡ Some (ByExpression expression)
  pub reads : AreOperations expression 0 (PushColumn column.rsp frame.rsp ∷ Load 8 ∷ [])
  pub rip : FindsAbove frame.rip (rule_of run column.ra)
  pub rsp : (rule_of run column.rsp ≡ None) ⊎ FindsAbove frame.rsp (rule_of run column.rsp)
  pub registers : (r : CalleeSaved) → FindsAbove (frame.registers r) (rule_of run (column_of r))
  pub others : (c : ℕ) → IsFalse (is_followed c) → FindsOther frame c (rule_of run c)

-- ---- tables

-- A module's tables say a signal's frame at an address: the description that contains the address is marked as a signal's, and has
-- a row there that says it. The GNU C library begins this description a byte before the code, since the address asked of a state
-- that was stopped in a call is the one before its return address.
pub record SaysSignalFrameAt (image : List Span) (m : Module) (a : ℕ) (frame : SignalFrame) : Type 0 where
  pub tables : HasTables image m
  pub fde : Fde
  pub listed : Contains (fdes_of tables.entries) fde
  pub covers : IsTrue (covers_pc fde a)
  pub marked : fde.cie.letters.signal ≡ true
  pub row : HasRow (bases_of m tables.frame) fde a (SaysSignalFrame frame)

-- a signal's frame is said at an address: by the tables of the module that holds it
pub record IsSignalFrameAt (p : Process) (a : ℕ) (frame : SignalFrame) : Type 0 where
  pub home : Module
  pub known : Contains p.modules home
  pub inside : IsTrue (in_module a home)
  pub says : SaysSignalFrameAt p.image home a frame

-- A state stands in a signal's frame, and such a frame is said at the address asked; the signal interrupted t where t stands.
pub record IsSignalLink (p : Process) (interrupted : Bool) (s : State) (frame : SignalFrame) (t : State) : Type 0 where
  pub state : IsState s
  pub returns : s.ra ≢ 0
  pub stands : StandsInSignal p.image frame t s
  pub said : IsSignalFrameAt p (address_asked interrupted s) frame
