pub mod PartReads
pub mod PartTables
pub mod PartSteps
pub mod BuiltParts
pub mod CoreWindows
pub mod PartSamples
