pub mod LayoutLemmas
pub mod RecordLemmas
pub mod RegisterLemmas
pub mod MappingLemmas
pub mod FileLemmas
pub mod StreamLemmas
pub mod SampleLemmas
