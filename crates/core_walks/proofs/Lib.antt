pub mod ThreadText
pub mod KnownThreads
