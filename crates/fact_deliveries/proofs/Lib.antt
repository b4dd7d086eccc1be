pub mod LandingFacts
pub mod LandingStarts
pub mod OneDelivery
mod GuardedFacts
pub mod GuardedStarts
