pub mod Words
pub mod Joins
