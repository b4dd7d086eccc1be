pub mod Marks
pub mod PartMarks
pub mod Texts
