pub mod Answers
pub mod Numbers
pub mod Ends
pub mod Verdicts
