pub mod Case
pub mod Counted
