-- What is kept where a thread was interrupted in an epilogue, in an order to read it in: which registers were popped, and over which
-- memory its stack is walked.
pub mod PoppedRegisters
pub mod KeptWalks
-- Worked stacks.
pub mod PoppedSample
pub mod RealignedSample
