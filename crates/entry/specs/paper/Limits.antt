-- REQUESTS, "Limits": how many bytes and tokens a script may have.
use Rattle.std.specs.Prelude.{ℕ, ◌+◌, ◌*◌, ◌≤◌, None, Some, IfSome, List, length}
use Rattle.token.specs.paper.Kinds.{Token}
use Rattle.token.specs.paper.Reading.{TokensOf}
use Rattle.token.specs.paper.Records.{mostBytes, tokenCount, headLength, longLength}
use Rattle.entry.specs.declared.limits.Limits.{Limits}

-- REQUESTS, "Limits in force": "The compiler's limit is 16,777,216 bytes; for tokens it has none."
abbrev pub compiler : Limits
compiler = record { bytes = mostBytes; tokens = None }

-- "A contact's limits are 4,096 bytes and 512 tokens, line ends and Eof included."
abbrev pub contact : Limits
contact = record { bytes = 4096; tokens = Some 512 }

-- no more tokens than the limits allow
abbrev pub Few : Limits → List Token → Type 0
Few limits ts = IfSome limits.tokens (λ most. tokenCount ts ≤ most)

-- REQUESTS, "Keeping limits": "A script keeps limits where it has a reading, and has no more bytes, and the reading no more tokens, than they say."
pub record Keeps (limits : Limits) (script : List ℕ) : Type 0 where
  pub within : length script ≤ limits.bytes
  pub tokens : List Token
  pub tokensOf : TokensOf script tokens
  pub few : Few limits tokens

-- REQUESTS, "Record bytes of a contact": "A contact needs at most 10,744 record bytes: 511 times a LongLit's 21, and Eof's 13."
abbrev pub contactNeed : ℕ
contactNeed = longLength * 511 + headLength
