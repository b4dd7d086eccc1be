pub mod FactStacks
pub mod Described
pub mod SampleStarts
pub mod SignalStarts
