-- What REQUESTS (docs/REQUESTS.md), "Lines and columns", says.
pub mod Lines
pub mod Host
