pub mod Promises
pub mod Encodes
pub mod StdUtf8
pub mod Marks
pub mod Runs
