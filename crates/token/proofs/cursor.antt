pub mod Wide
pub mod Bytes
pub mod Laws
pub mod Runs
pub mod Blanks
pub mod Words
