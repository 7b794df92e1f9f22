-- The examples of RULES and REQUESTS: by the listing of a script, by what the host sees, and of token text. `HostTheorems` asks for them.
use Rattle.std.specs.Prelude.{ℕ, ◌≡◌, IsTrue, List, [], ◌∷◌, ◌++◌, map, length, replicate, nat_lt}
use Rattle.std.specs.List.{repeat}
use Rattle.words.specs.Words.{blockOf, told}
use Rattle.chars.specs.paper.Quoted.{codes}
use Rattle.chars.specs.computed.Encoded.{encodeAll, script}
use Rattle.token.specs.paper.Records.{mostBytes, mostNeed}
use Rattle.token.specs.computed.Listing.{holdBy}
use Rattle.token.specs.computed.Examples.{marked, listingExample, refusalExamples, tieExamples, traps, signs}
use Rattle.entry.specs.declared.limits.Limits.{Limits}
use Rattle.entry.specs.paper.Limits.{compiler, contact, contactNeed}
use Rattle.entry.specs.paper.Host.{seen}
use Rattle.entry.specs.computed.Host.{rejected, verdict}
use Rattle.entry.specs.paper.TokenText.{tokenText, textNumber}
use Rattle.entry.specs.computed.Listing.{entered, hosted, measuring}

-- 18: 61 C0 80 hex: 1. Surrogates, what is over U+10FFFF, and a character cut short are no UTF-8 either.
abbrev pub illFormed : List (List ℕ)
illFormed = (0x61 ∷ 0xC0 ∷ 0x80 ∷ []) ∷ (0xED ∷ 0xA0 ∷ 0x80 ∷ []) ∷ (0x61 ∷ 0xF4 ∷ 0x90 ∷ 0x80 ∷ 0x80 ∷ []) ∷ (0x22 ∷ 0xE4 ∷ 0xB8 ∷ []) ∷ []

pub record Examples : Type 0 where
  -- the twelve marked scripts, the listing's example, refusals 1 to 16, ties, traps and operator signs: by the listing of a script
  pub scripts-hold : IsTrue (holdBy entered (marked ++ listingExample ++ refusalExamples ++ tieExamples ++ traps ++ signs))
  -- RULES, "Operator sign": U+FFFC is one and is not printable, so that behind a `'` it begins a symbol, and a `'` behind it another piece
  pub sign-not-printable : map entered ((script "'" ++ encodeAll (0xFFFC ∷ [])) ∷ (script "'" ++ encodeAll (0xFFFC ∷ []) ++ script "'") ∷ [])
      ≡ map codes ("7 0 4 0\n18 4 4 0\n" ∷ "refused 16 at 5\n" ∷ [])
  -- U+2427 to U+2429, U+31E4 and U+31E5, signs that Unicode 16.0 was the first to have, are one operator
  pub newest-signs : entered (encodeAll (0x2427 ∷ 0x2428 ∷ 0x2429 ∷ 0x31E4 ∷ 0x31E5 ∷ [])) ≡ codes "2 0 15 0\n18 15 15 0\n"
  -- 17, for every script that is so long, whatever the limits
  pub too-long : (limits : Limits) (s : List ℕ) (room : ℕ) → IsTrue (nat_lt mostBytes (length s)) → verdict limits s room ≡ rejected 17 0
  -- 18: the place is the length of the longest valid prefix
  pub not-utf8 : map entered illFormed
      ≡ map codes ("refused 18 at 1\n" ∷ "refused 18 at 0\n" ∷ "refused 18 at 1\n" ∷ "refused 18 at 1\n" ∷ [])
  -- the same by what the host sees, and `'(x`, refused by 16 at 1; each with nothing lent for records
  pub refused-seen : map (λ s. hosted compiler s [] (replicate 16 9)) (script "'(x" ∷ illFormed)
      ≡ seen 16 [] (blockOf 16 1 0 0) ∷ map (λ a. seen 18 [] (blockOf 18 a 0 0)) (1 ∷ 0 ∷ 1 ∷ 1 ∷ [])
  -- 19: `a`, 25 bytes lent; 20: a block of 15 bytes; and `a` accepted into 27 bytes, of which the last keeps its value
  pub lent-25 : hosted compiler (script "a") (replicate 25 7) (replicate 16 9)
      ≡ seen 19 (replicate 25 7) (19 ∷ 0 ∷ 0 ∷ 0 ∷ 0 ∷ 0 ∷ 0 ∷ 0 ∷ 2 ∷ 0 ∷ 0 ∷ 0 ∷ 26 ∷ 0 ∷ 0 ∷ 0 ∷ [])
  pub block-15 : hosted compiler (script "a") (replicate 26 7) (replicate 15 9) ≡ seen 20 (replicate 26 7) (replicate 15 9)
  pub lent-27 : hosted compiler (script "a") (replicate 27 7) (replicate 16 9)
      ≡ seen 0
      (13 ∷ 0 ∷ 1 ∷ 0 ∷ 0 ∷ 0 ∷ 0 ∷ 0 ∷ 1 ∷ 0 ∷ 0 ∷ 0 ∷ 0 ∷ 13 ∷ 0 ∷ 18 ∷ 0 ∷ 1 ∷ 0 ∷ 0 ∷ 0 ∷ 1 ∷ 0 ∷ 0 ∷ 0 ∷ 0 ∷ 7 ∷ [])
      (0 ∷ 0 ∷ 0 ∷ 0 ∷ 0 ∷ 0 ∷ 0 ∷ 0 ∷ 2 ∷ 0 ∷ 0 ∷ 0 ∷ 26 ∷ 0 ∷ 0 ∷ 0 ∷ [])
  -- The bound on the record bytes is met: with nothing lent the empty script is told all 13 of it, and `1` all 30.
  pub bound-met : map (λ s. hosted compiler s [] (replicate 16 9)) (script "" ∷ script "1" ∷ [])
      ≡ seen 19 [] (blockOf 19 0 1 (mostNeed 0)) ∷ seen 19 [] (blockOf 19 0 2 (mostNeed 1)) ∷ []
  -- 27: a contact of 4,097 bytes, UTF-8 or not; of 4,096 that are not, 18
  pub contact-bytes : map (λ s. hosted contact s [] (replicate 16 9)) (replicate 4097 0x20 ∷ replicate 4097 0xFF ∷ replicate 4096 0xFF ∷ [])
      ≡ seen 27 [] (blockOf 27 0 0 0) ∷ seen 27 [] (blockOf 27 0 0 0) ∷ seen 18 [] (blockOf 18 0 0 0) ∷ []
  -- 29, of REQUESTS: behind `€` and spaces, between tokens, in a comment with another behind it, in a string with nothing lent; none are an escape and
  -- U+202F; in a contact before 28
  pub marks-seen : map (λ s. hosted compiler s [] (replicate 16 9))
      (encodeAll (0x20AC ∷ 0x20 ∷ 0x202A ∷ [])
      ∷ (script "a" ++ encodeAll (0x2066 ∷ []) ++ script "b")
      ∷ (script "/*" ++ encodeAll (0x202E ∷ []) ++ script "*/" ++ encodeAll (0x202C ∷ []))
      ∷ (script "\"" ++ encodeAll (0x2069 ∷ []) ++ script "\"")
      ∷ script "\"\\u202A\""
      ∷ (script "//" ++ encodeAll (0x202F ∷ []))
      ∷ [])
      ≡ map (λ a. seen 29 [] (blockOf 29 a 0 0)) (4 ∷ 1 ∷ 2 ∷ 1 ∷ []) ++ seen 19 [] (blockOf 19 0 2 34) ∷ seen 19 [] (blockOf 19 0 1 13) ∷ []
  pub mark-contact : hosted contact (script "//" ++ encodeAll (0x202E ∷ []) ++ replicate 600 0x0A) [] (replicate 16 9) ≡ seen 29 [] (blockOf 29 2 0 0)
  -- 18 goes before it, wherever the mark stands
  pub mark-behind : hosted compiler (encodeAll (0x202A ∷ []) ++ 0x80 ∷ []) [] (replicate 16 9) ≡ seen 18 [] (blockOf 18 3 0 0)
  -- 28: a contact of 512 commas has 513 tokens; of 511 it has 512, and with nothing lent gets 19; an open string goes before 28
  pub contact-tokens : map (λ s. hosted contact s [] (replicate 16 9)) (replicate 512 0x2C ∷ replicate 511 0x2C ∷ (replicate 600 0x2C ++ script "\"") ∷ [])
      ≡ seen 28 [] (blockOf 28 0 0 0) ∷ seen 19 [] (blockOf 19 0 512 6656) ∷ seen 7 [] (blockOf 7 601 0 0) ∷ []
  -- The bound on a contact's record bytes is met: 511 times `0L` are told all 10,744 of it.
  pub contact-met : hosted contact (repeat 511 (script "0L")) [] (replicate 16 9) ≡ seen 19 [] (blockOf 19 0 512 contactNeed)
  -- Measured: `7 8L "a"` and a line end; then three numbers, three strings, four line ends, a name and Eof, which need 12 heads, and values of 4, 16,
  -- 24 and 4 bytes: four counts that differ show the order. A script refused by 16, one by 29, and a block of 31 bytes.
  pub measured-five : measuring (script "7 8L \"a\"\n") (replicate 32 9) ≡ told 0 (blockOf 0 0 5 86 ++ blockOf 1 1 1 1)
  pub measured : measuring (script "7 8L 9L \"a\" s\"b\" \"\"\n\n\n\nx") (replicate 32 9) ≡ told 0 (blockOf 0 0 12 204 ++ blockOf 1 2 3 4)
  pub measured-refused : measuring (script "'(x") (replicate 32 9) ≡ told 16 (blockOf 16 1 0 0 ++ blockOf 0 0 0 0)
  pub measured-marked : measuring (script "a" ++ encodeAll (0x2066 ∷ [])) (replicate 32 9) ≡ told 29 (blockOf 29 1 0 0 ++ blockOf 0 0 0 0)
  pub measured-31 : measuring (script "a") (replicate 31 9) ≡ told 20 (replicate 31 9)
  -- 21: `ab`, 1 to 3
  pub text-21 : textNumber (script "ab") 1 3 ≡ 21
  pub text-ok : tokenText (script "ab") 1 2 ≡ script "b"
