pub mod ContextViews
pub mod X86
pub mod Aarch64
pub mod Files
pub mod Riscv32
pub mod Numbers
