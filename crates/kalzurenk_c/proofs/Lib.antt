pub mod AsBox
pub mod DeliveryLemmas
pub mod FrameLemmas
pub mod KnownFrames
pub mod OutwardLemmas
