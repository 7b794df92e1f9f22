-- Laws on stores, and how writing and reading join.
pub mod Stores
pub mod Joins
pub mod Readings
