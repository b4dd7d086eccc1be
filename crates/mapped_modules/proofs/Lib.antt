pub mod Firsts
pub mod Loadings
pub mod Standing
