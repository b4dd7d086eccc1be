pub mod Lines
pub mod Due
pub mod PartLines
pub mod Views
