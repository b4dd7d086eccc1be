pub mod Claims
pub mod Code
pub mod Said
pub mod Claimed
pub mod Lines
