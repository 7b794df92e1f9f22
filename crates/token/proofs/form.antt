pub mod Stores
pub mod Laws
pub mod ReadBack
pub mod Shapes
