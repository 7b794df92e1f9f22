pub mod paper
pub mod computed
pub mod Theorems
