pub mod Ranges
pub mod Bits
pub mod Masks
pub mod Laws
