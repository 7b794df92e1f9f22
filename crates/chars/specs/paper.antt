-- What RULES (docs/RULES.md), "Characters", says, in its order: tests on codes, UTF-8 and texts, tables and classes.
pub mod Quoted
pub mod Utf8
pub mod Text
pub mod Ranges
pub mod Tables
pub mod Classes
pub mod Marks
