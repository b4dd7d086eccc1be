pub mod Functions
pub mod Views
pub mod Claimed
pub mod Lines
pub mod Adding
