pub mod Base
pub mod Classes
pub mod Loops
pub mod theorems
pub mod lexer
