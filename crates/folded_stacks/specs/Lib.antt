pub mod Stacks
pub mod Places
pub mod Counts
pub mod Lines
pub mod Runs
pub mod Folding
pub mod FoldSample
