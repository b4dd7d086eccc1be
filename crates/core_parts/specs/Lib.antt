-- Which parts of a core's memory its threads are walked over.
pub mod Parts
pub mod PartSample
pub mod Views
