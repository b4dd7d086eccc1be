-- The columns of x86-64. System V x86-64 psABI, table of DWARF register numbers.
use Rattle.std.specs.Prelude.{ℕ}

-- general registers
abbrev pub rax : ℕ
rax = 0

abbrev pub rdx : ℕ
rdx = 1

abbrev pub rcx : ℕ
rcx = 2

abbrev pub rbx : ℕ
rbx = 3

abbrev pub rsi : ℕ
rsi = 4

abbrev pub rdi : ℕ
rdi = 5

abbrev pub rbp : ℕ
rbp = 6

-- the stack pointer
abbrev pub rsp : ℕ
rsp = 7

abbrev pub r12 : ℕ
r12 = 12

abbrev pub r13 : ℕ
r13 = 13

abbrev pub r14 : ℕ
r14 = 14

abbrev pub r15 : ℕ
r15 = 15

-- the return address
abbrev pub ra : ℕ
ra = 16

-- the control and status register of the vector unit, and the control word of the floating-point unit
abbrev pub mxcsr : ℕ
mxcsr = 64

abbrev pub fcw : ℕ
fcw = 65
