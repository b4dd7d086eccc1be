-- What files have, and the front of an ELF file.
pub mod Files
pub mod Front
