pub mod Begun
pub mod Bits
pub mod Callers
pub mod CxxAsked
pub mod CxxChains
pub mod CxxLists
pub mod CxxRecords
pub mod CxxSearches
pub mod CxxSites
pub mod Faults
pub mod First
pub mod Heads
pub mod Sites
pub mod Taken
pub mod Windows
mod SavedSlots
