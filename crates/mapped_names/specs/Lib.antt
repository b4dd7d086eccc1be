-- Where an address of memory lies in a file that was mapped, and what is read of files.
pub mod Places
pub mod Reading
