pub mod Lines
pub mod MappedWalks
pub mod ThreadLines
