pub mod Words
pub mod Laws
pub mod Found
pub mod Trails
pub mod Turns
