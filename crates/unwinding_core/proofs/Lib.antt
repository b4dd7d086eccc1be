pub mod Lines
pub mod SeenFrames
pub mod Stateless
pub mod Untaken
