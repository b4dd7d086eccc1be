-- The numbers of registers.
use Rattle.std.specs.Prelude.{ℕ, ◌==◌, if◌then◌else◌}
use Rattle.pe_unwind_info.specs.declared.x86_64.registers.Register.{Register}
use Rattle.pe_unwind_info.specs.declared.x86_64.registers.Register.TheVariants.{RAX, RCX, RDX, RBX, RSP, RBP, RSI, RDI, R8, R9, R10, R11, R12, R13, R14, R15}
use Rattle.pe_unwind_info.specs.declared.x86_64.registers.XmmRegister.{XmmRegister}
use Rattle.pe_unwind_info.specs.declared.x86_64.registers.XmmRegister.TheVariants.{XMM0, XMM1, XMM2, XMM3, XMM4, XMM5, XMM6, XMM7, XMM8, XMM9, XMM10, XMM11, XMM12, XMM13, XMM14, XMM15}

-- the number by which instructions and unwind codes name a general purpose register
abbrev pub register_number : Register → ℕ
register_number RAX = 0
register_number RCX = 1
register_number RDX = 2
register_number RBX = 3
register_number RSP = 4
register_number RBP = 5
register_number RSI = 6
register_number RDI = 7
register_number R8 = 8
register_number R9 = 9
register_number R10 = 10
register_number R11 = 11
register_number R12 = 12
register_number R13 = 13
register_number R14 = 14
register_number R15 = 15

-- the same of an XMM register
abbrev pub xmm_number : XmmRegister → ℕ
xmm_number XMM0 = 0
xmm_number XMM1 = 1
xmm_number XMM2 = 2
xmm_number XMM3 = 3
xmm_number XMM4 = 4
xmm_number XMM5 = 5
xmm_number XMM6 = 6
xmm_number XMM7 = 7
xmm_number XMM8 = 8
xmm_number XMM9 = 9
xmm_number XMM10 = 10
xmm_number XMM11 = 11
xmm_number XMM12 = 12
xmm_number XMM13 = 13
xmm_number XMM14 = 14
xmm_number XMM15 = 15

-- the general purpose register of a number below 16
abbrev pub register_of : ℕ → Register
register_of n =
    if n == 0 then RAX else (if n == 1 then RCX else (if n == 2 then RDX else (if n == 3 then RBX else (
    if n == 4 then RSP else (if n == 5 then RBP else (if n == 6 then RSI else (if n == 7 then RDI else (
    if n == 8 then R8 else (if n == 9 then R9 else (if n == 10 then R10 else (if n == 11 then R11 else (
    if n == 12 then R12 else (if n == 13 then R13 else (if n == 14 then R14 else (R15)))))))))))))))

-- the XMM register of a number below 16
abbrev pub xmm_register_of : ℕ → XmmRegister
xmm_register_of n =
    if n == 0 then XMM0 else (if n == 1 then XMM1 else (if n == 2 then XMM2 else (if n == 3 then XMM3 else (
    if n == 4 then XMM4 else (if n == 5 then XMM5 else (if n == 6 then XMM6 else (if n == 7 then XMM7 else (
    if n == 8 then XMM8 else (if n == 9 then XMM9 else (if n == 10 then XMM10 else (if n == 11 then XMM11 else (
    if n == 12 then XMM12 else (if n == 13 then XMM13 else (if n == 14 then XMM14 else (XMM15)))))))))))))))
