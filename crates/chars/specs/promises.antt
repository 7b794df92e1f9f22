-- What the crates above may rely on as laws. Each record is a clause of a contract: `CodeLaws` and `ClassLaws` of `classes_of`, `Decoding` and
-- `EncodingLaws` of `decode`, `ValidLaws` and `StdLaws` of `valid_prefix`, `MarkLaws` of `check`, `TextLaws` of `char_at`, `RunLaws` of `block_at`.
-- Proofs of other crates open these and cite no other law of this one; `proofs/Bools` and `proofs/Prefix`, which they use too, speak of `&&`, `||`,
-- false and `prefix_len` only.
pub mod Codes
pub mod Utf8
pub mod Texts
pub mod Classes
pub mod StdUtf8
pub mod Marks
pub mod Runs
