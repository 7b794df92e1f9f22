pub mod Verdicts
pub mod Checks
pub mod Laws
