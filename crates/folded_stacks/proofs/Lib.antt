pub mod Orders
pub mod Counting
pub mod RunLemmas
pub mod FoldedLines
pub mod Kept
pub mod Walks
pub mod Witnesses
pub mod KnownStacks
