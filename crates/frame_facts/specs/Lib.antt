-- The definitions, in an order to read them in: what is known at an address of code, which rows say it, which tables say it, and
-- the chains of states that they lead through; what is known of a signal's frame; what a function's prologue makes known; lists of
-- claims; what is delivered.
pub mod Facts
pub mod FactRows
pub mod FactTables
pub mod FactChains
pub mod SignalFrames
pub mod StepFacts
pub mod Claims
pub mod FactDeliveries
