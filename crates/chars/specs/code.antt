-- What the code's own functions answer, module by module. Nothing that states the rules cites it.
pub mod Utf8
pub mod Text
pub mod Tables
pub mod Masks
pub mod Classes
pub mod Runs
