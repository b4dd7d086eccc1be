-- Where the code of a part that was mapped lies and its frame table, what is read of the files, and what a core's threads are walked
-- over.
pub mod Places
pub mod Loading
pub mod Spaces
