pub mod Written
pub mod Fields
pub mod MachoSteps
pub mod PeRegisters
pub mod PeCaller
