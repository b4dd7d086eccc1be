pub mod Callers
pub mod Refusals
pub mod Modules
pub mod Handlers
pub mod Xmm
pub mod FrameData
