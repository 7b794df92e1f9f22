pub mod Sequences
pub mod Rows
