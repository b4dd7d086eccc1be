-- What the header and the section headers of an ELF file say, its symbols, the function at an address, and a worked example.
pub mod Header
pub mod Sections
pub mod Symbols
pub mod Functions
pub mod Bytes
pub mod Nearest
pub mod Sample
