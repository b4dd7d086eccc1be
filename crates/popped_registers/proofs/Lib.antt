pub mod KeptLemmas
pub mod RealignedWalks
pub mod SampleStack
pub mod SampleWalks
