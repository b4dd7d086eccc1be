-- The definitions, in an order to read them in.
--
-- A machine that calls: what a stopped function's registers are, what a prologue did, which calls lead to the state.
pub mod Columns
pub mod State
pub mod Prologue
pub mod Entered
pub mod Function
pub mod Chain
-- What tables have to say of it: rows, frame tables, language tables, modules.
pub mod DescribedRows
pub mod FrameTable
pub mod LanguageTable
pub mod Module
-- What is delivered, and what the theorems ask of a start.
pub mod Delivery
pub mod Valid
-- The bytes: numbers, pointers, entries, instructions, rows.
pub mod Faults
pub mod Input
pub mod Membership
pub mod Augmentation
pub mod PointerEncodings
pub mod Pointers
pub mod CallFrameOpcodes
pub mod Instructions
pub mod Entries
pub mod Row
-- The files above say what the theorems on chains ask of a start, with three words of the files below: Caller.Columns, what
-- the columns of a machine hold; Scan.fdes_of, the descriptions among entries; and Header.header_version. All else below is
-- said of any bytes: the caller by a row, expressions, what a scan and a header answer, what a language table asks, a state
-- inside a prologue, and how numbers are spelled.
pub mod Caller
pub mod ExpressionOpcodes
pub mod Operations
pub mod Expressions
pub mod Scan
pub mod Header
pub mod HeaderSearch
pub mod HeaderSearchLaws
pub mod LanguageSearch
pub mod Stopped
pub mod Numbers
