pub mod CursorViews
pub mod Readers
pub mod PointerViews
