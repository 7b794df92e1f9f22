pub mod Texts
pub mod Values
pub mod Gaps
pub mod Tokens
pub mod Hosts
pub mod Examples
pub mod Theorems
