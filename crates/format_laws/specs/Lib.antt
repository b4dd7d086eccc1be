pub mod PeUndone
pub mod CompactUndone
pub mod PeSamples
pub mod MachoSamples
pub mod ElfSample
pub mod Undone
pub mod Sample
