pub mod Rows
pub mod Stands
pub mod Codes
pub mod Valid
pub mod Widths
pub mod Wide
pub mod Tables
pub mod Marks
