pub mod Stacks
pub mod Within
pub mod Turns
pub mod Answered
pub mod Counting
