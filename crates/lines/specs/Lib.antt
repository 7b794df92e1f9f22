pub mod paper
pub mod computed
pub mod code
pub mod Theorems
