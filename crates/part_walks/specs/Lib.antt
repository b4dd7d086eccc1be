pub mod Parts
pub mod PartSample
pub mod Windows
