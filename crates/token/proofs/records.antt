pub mod Measures
pub mod Counts
pub mod Reach
pub mod Ends
pub mod Told
