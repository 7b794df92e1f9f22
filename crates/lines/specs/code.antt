-- What the code's own functions answer.
pub mod Index
