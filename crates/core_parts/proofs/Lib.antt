pub mod Regions
pub mod Segments
pub mod PartWalks
pub mod Finding
