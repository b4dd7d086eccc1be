-- The states of a walk with their marks, and the lines of walks with the names of functions.
pub mod Marking
pub mod Named
