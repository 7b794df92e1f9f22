pub mod Contents
pub mod Escapes
pub mod Laws
pub mod Strips
