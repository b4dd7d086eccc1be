mod CieParts
mod FdeParts
mod EntryParts
mod Scanning
mod Ahead
pub mod Searching
mod Faults
mod Answered
mod Described
mod Sharing
mod Halving
mod PastEnd
mod Named
mod HeaderParts
mod Ascending
mod Directory
pub mod Indexed
mod Keeping
mod Turning
mod ListingFdes
mod Descriptions
mod Collecting
mod Preparing
pub mod Exactly
pub mod SampleIndex
