-- What a perf.data file is, in an order to read it in: the header, the attributes of its events, the record that bytes begin
-- with, what a sample says, what mappings, names and the starts and ends of threads say, and all of it together.
pub mod FileHeader
pub mod Layouts
pub mod Parts
pub mod Registers
pub mod Samples
pub mod Mappings
pub mod Tasks
pub mod Records
pub mod FileValue
-- What the code's values say.
pub mod Views
-- What a reader and its source have left.
pub mod Streams
-- A worked example.
pub mod Sample
