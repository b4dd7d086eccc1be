pub mod ClaimViews
pub mod Said
pub mod RowFacts
pub mod InOrder
pub mod Stretches
pub mod Audits
pub mod Looking
pub mod SampleClaims
