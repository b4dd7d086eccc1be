pub mod StopSamples
pub mod EpilogSamples
pub mod MachoWhole
pub mod Handlers
