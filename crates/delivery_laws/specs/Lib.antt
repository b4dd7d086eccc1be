pub mod AnyPasses
pub mod Personality
pub mod StateRegisters
pub mod CountedSpaces
