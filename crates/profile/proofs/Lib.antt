pub mod Folds
pub mod KnownSamples
pub mod KnownSampleRead
mod PoppedSampleRead
pub mod Streamed
