pub mod Cutting
pub mod Fronts
pub mod PartLines
pub mod Sufficing
pub mod Threads
pub mod Ready
