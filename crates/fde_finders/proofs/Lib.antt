pub mod InTurn
pub mod Lasts
pub mod Listed
pub mod Unled
