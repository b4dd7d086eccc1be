pub mod Lines
pub mod Due
pub mod Reading
pub mod Sample
pub mod KnownSample
pub mod PoppedSample
