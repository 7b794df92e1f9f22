-- What is computed, and proved to be what is declared.
pub mod Check
pub mod Host
pub mod Listing
pub mod Examples
pub mod Measure
