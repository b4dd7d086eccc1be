pub mod Digits
pub mod Report
pub mod Refusals
pub mod Summary
pub mod Folds
