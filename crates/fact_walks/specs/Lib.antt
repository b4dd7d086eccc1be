pub mod Callers
pub mod SampleSpace
pub mod SignalSpace
