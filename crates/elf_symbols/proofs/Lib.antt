pub mod Tables
pub mod Nearer
pub mod SampleLemmas
