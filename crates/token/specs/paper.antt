-- What RULES (docs/RULES.md), "Pieces" to "Refusals", says: tests of characters and the kinds first, since the rest cites them; then runs of
-- digits, shapes, readings, records, and refusals 1 to 16.
pub mod Tests
pub mod Kinds
pub mod Digits
pub mod Shapes
pub mod Reading
pub mod Records
pub mod Refusals
