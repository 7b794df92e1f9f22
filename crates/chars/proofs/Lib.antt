pub mod Bools
pub mod Carry
pub mod Prefix
pub mod theorems
