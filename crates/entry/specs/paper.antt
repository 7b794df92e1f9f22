-- What RULES (docs/RULES.md), "Refusals of a call" to "Token text", and REQUESTS (docs/REQUESTS.md), "Limits" and
-- "Measuring", say: how much a script may have, the order of the refusals with what the host sees, what it is told that measures, and token text.
pub mod Limits
pub mod Refusals
pub mod Host
pub mod TokenText
pub mod Measure
