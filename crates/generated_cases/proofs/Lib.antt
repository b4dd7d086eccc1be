pub mod Taken
pub mod AscendingResumes
pub mod Described
pub mod Sums
pub mod Pairs
