-- What is computed, and proved to be what is declared; examples.
pub mod Lines
pub mod Host
pub mod Examples
