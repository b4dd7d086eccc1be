-- What a core file is, in an order to read it in: the ELF header, the program headers, the notes, what a note tells of a
-- thread, and all of it together.
pub mod ElfHeader
pub mod ProgramHeaders
pub mod ProgramHeaderBytes
pub mod Notes
pub mod NoteGrammar
pub mod ThreadStatus
pub mod CoreValue
pub mod CoreGrammar
-- Which files were mapped.
pub mod MappedParts
pub mod PartEntryBytes
pub mod MappedViews
-- What the first bytes of a core file say.
pub mod Fronts
-- What an image holds after a core's segments were added, and what the iterators have left.
pub mod Adding
pub mod Left
-- A worked example.
pub mod Sample
