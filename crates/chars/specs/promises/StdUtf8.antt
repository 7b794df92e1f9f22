-- What std calls UTF-8 is what is measured here.
use Rattle.std.specs.Prelude.{ℕ, ◌≡◌, ◌↔◌, List, length, IsUtf8}
use Rattle.std.specs.Str.Lossy.{utf8_valid_len}
use Rattle.chars.specs.computed.Valid.{validPrefix}

pub record StdLaws : Type 0 where
  -- the longest prefix that is UTF-8 by std
  pub same-length : (s : List ℕ) → validPrefix s ≡ utf8_valid_len s
  -- all of a text is measured exactly where it is UTF-8 by std
  pub same-texts : (s : List ℕ) → (validPrefix s ≡ length s) ↔ IsUtf8 s
