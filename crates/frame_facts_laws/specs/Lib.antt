pub mod FactWalks
pub mod SignalSteps
pub mod SampleProgram
pub mod SignalProgram
