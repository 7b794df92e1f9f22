-- What REQUESTS (docs/REQUESTS.md), "Stored rolls", says.
pub mod Refusals
pub mod Roll
pub mod Host
