-- What is computed, and proved to be what is declared.
pub mod Valid
pub mod Marks
pub mod Runs
pub mod Ascending
pub mod Encoded
