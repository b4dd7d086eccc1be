pub mod Steps
pub mod Written
pub mod Shows
pub mod Pairs
pub mod Heads
pub mod Lines
