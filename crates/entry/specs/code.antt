-- What the code's own functions answer.
pub mod Refusal
pub mod Host
