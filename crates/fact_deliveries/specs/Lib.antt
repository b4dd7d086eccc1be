pub mod LandingProgram
pub mod LandingSpace
pub mod CxxLanding
pub mod GuardedProgram
pub mod GuardedThrow
