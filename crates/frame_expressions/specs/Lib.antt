pub mod OperationViews
pub mod Answers
pub mod Stacked
pub mod Runs
pub mod Unmapped
