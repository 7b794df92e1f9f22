-- What the code's own functions answer.
pub mod Record
pub mod Roll
