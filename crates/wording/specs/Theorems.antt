-- What is proved of scripts that are the same but for comments: REQUESTS, "Comment wording". Proved: proofs/Theorems.
use Rattle.std.specs.Prelude.{ℕ, ◌≡◌, List}
use Rattle.chars.specs.paper.Utf8.{WellFormed}
use Rattle.chars.specs.paper.Marks.{Unmarked}
use Rattle.token.specs.paper.Kinds.{Token}
use Rattle.token.specs.paper.Reading.{TokensOf}
use Rattle.token.specs.paper.Records.{records}
use Rattle.entry.specs.declared.limits.Limits.{Limits}
use Rattle.entry.specs.paper.Host.{Read, numberSeen}
use Rattle.entry.specs.computed.Host.{hostFor}
use Rattle.wording.specs.paper.Wording.{SameButComments}
use Rattle.wording.specs.computed.Examples.{Examples}

pub record WordingTheorems : Type 0 where
  -- "Of two accepted scripts that are the same but for comments the records are the same, byte for byte." `Read` is what acceptance asks of a script:
  -- its size, UTF-8, no direction mark, and a reading, with these tokens, no more than the limit. The limits may differ.
  pub same-records : (limits others : Limits) (a b : List ℕ) (ts us : List Token) → SameButComments a b → Read limits a ts → Read others b us
      → records ts ≡ records us
  -- "With the same limits, records buffer and answer block both calls hand back the same number and leave the same bytes."
  pub same-seen : (limits : Limits) (a b buffer block : List ℕ) → SameButComments a b
      → numberSeen (hostFor limits a buffer block) ≡ 0 → numberSeen (hostFor limits b buffer block) ≡ 0
      → hostFor limits a buffer block ≡ hostFor limits b buffer block
  -- "In such calls, where one of the two is accepted, so is the other, if it is well-formed and unmarked."
  pub stays-accepted : (limits : Limits) (a b buffer block : List ℕ) → SameButComments a b
      → numberSeen (hostFor limits a buffer block) ≡ 0 → WellFormed b → Unmarked b
      → numberSeen (hostFor limits b buffer block) ≡ 0
  -- Why: the tokens of the one are those of the other. For this only the one need be well-formed, and direction marks do not matter.
  pub same-tokens : (a b : List ℕ) (ts : List Token) → SameButComments a b → WellFormed a → TokensOf a ts → TokensOf b ts
  -- In all this the two may be exchanged.
  pub symmetric : (a b : List ℕ) → SameButComments a b → SameButComments b a
  -- And the examples of REQUESTS come out as they say.
  pub examples : Examples
