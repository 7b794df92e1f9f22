-- What is computed, and proved to be what is declared.
pub mod Flags
pub mod Answer
pub mod Listing
pub mod Examples
