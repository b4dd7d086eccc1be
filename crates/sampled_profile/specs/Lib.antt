-- What a profile says, in an order to read it in: the names that a thread and its process have, what is said of a stack,
-- the walk of a sample and why it ends, its frames by their functions, the text of a stack, the distinct ones of a file,
-- and its samples one after another.
pub mod Names
pub mod Ends
pub mod Walks
pub mod Frames
pub mod Texts
pub mod Profiles
pub mod Scripts
pub mod Told
-- What is written of a sample whose stack is known.
pub mod KnownSamples
-- What the code holds.
pub mod CountViews
pub mod Tables
pub mod Reading
pub mod Kept
-- What is answered to a file that is read from a source.
pub mod Streamed
