-- REQUESTS, "Stored rolls": what a record holds, the refusals 22 to 24, one record, and the whole roll.
use Rattle.std.specs.Prelude.{ℕ, ◌+◌, ◌≤◌, ◌<◌, ◌≡◌, ◌≢◌, ◌⊎◌, List, [], ◌∷◌, length}
use Rattle.words.specs.Words.{oneAt, twoAt, fourAt, eightAt}
use Rattle.token.specs.paper.Kinds.{kindNumber, Token}
use Rattle.token.specs.paper.Records.{bit, Value, one, four, eight, valuesOf, headLength, recordLength}
use Rattle.token.specs.declared.kinds.TokenKind.{TokenKind}
use Rattle.token.specs.declared.kinds.TokenKind.TheVariants as tk

-- ---- REQUESTS, "Record in a roll": "The record at an offset has the fields of a record there: length at 0, kind at 2, start at 4, end at 8, cut at 12,
-- values from 13 on."

abbrev pub lengthAt : List ℕ → ℕ → ℕ
lengthAt roll at = twoAt roll at

abbrev pub kindAt : List ℕ → ℕ → ℕ
kindAt roll at = twoAt roll (at + 2)

abbrev pub startAt : List ℕ → ℕ → ℕ
startAt roll at = fourAt roll (at + 4)

abbrev pub endAt : List ℕ → ℕ → ℕ
endAt roll at = fourAt roll (at + 8)

abbrev pub cutAt : List ℕ → ℕ → ℕ
cutAt roll at = oneAt roll (at + 12)

-- Str: content start and end
abbrev pub contentStart : List ℕ → ℕ → ℕ
contentStart roll at = fourAt roll (at + headLength)

abbrev pub contentEnd : List ℕ → ℕ → ℕ
contentEnd roll at = fourAt roll (at + headLength + 4)

-- values one after the other, each of as many bytes as it takes
abbrev pub ValuesFrom : List ℕ → ℕ → List Value → Type 0
ValuesFrom roll i [] = Unit {0}
ValuesFrom roll i (one v ∷ vs) = (v ≡ oneAt roll i) × ValuesFrom roll (i + 1) vs
ValuesFrom roll i (four v ∷ vs) = (v ≡ fourAt roll i) × ValuesFrom roll (i + 4) vs
ValuesFrom roll i (eight v ∷ vs) = (v ≡ eightAt roll i) × ValuesFrom roll (i + 8) vs

-- "Its token is the one of that kind, with that start, end and cut, and with those values."
pub record TokenAt (roll : List ℕ) (at : ℕ) (t : Token) : Type 0 where
  pub kind-is : kindNumber t.kind ≡ kindAt roll at
  pub start-is : t.start ≡ startAt roll at
  pub end-is : t.end ≡ endAt roll at
  pub cut-is : bit t.cut ≡ cutAt roll at
  pub values-are : ValuesFrom roll (at + headLength) (valuesOf t.kind)

-- ---- REQUESTS, "Refusals of a record": "At each record these are checked in this order; the place is the record's offset."

-- 22: "bytes are left, but fewer than four, or fewer than the record's length says"
pub record TooFew (roll : List ℕ) (at : ℕ) : Type 0 where
  pub left : at < length roll
  pub fewer : (length roll < at + 4) ⊎ (length roll < at + lengthAt roll at)

-- a kind, by its number, and the length of its records
pub data KindLength : ℕ → ℕ → Type 0 where
  of-kind : (k : TokenKind) → KindLength (kindNumber k) (recordLength k)

-- 23: "no kind has this number, or its records have another length"
abbrev pub NoKind : List ℕ → ℕ → Type 0
NoKind roll at = KindLength (kindAt roll at) (lengthAt roll at) → ⊥

-- 24: "a field is out of its range", after a token that ends at `previous` in the script
pub data Wrong (roll : List ℕ) (at previous : ℕ) : Type 0 where
  -- "the cut is above 1, or the after-comment of a Newline is;" (17)
  cut-byte : 1 < cutAt roll at → Wrong roll at previous
  after-comment : kindAt roll at ≡ 17 → 1 < oneAt roll (at + headLength) → Wrong roll at previous
  -- "the value of an IntLit or a LongLit is negative: its last byte is 128 or more;" (4 and 5)
  negative-int : kindAt roll at ≡ 4 → 128 ≤ oneAt roll (at + headLength + 3) → Wrong roll at previous
  negative-long : kindAt roll at ≡ 5 → 128 ≤ oneAt roll (at + headLength + 7) → Wrong roll at previous
  -- "the start is past the end, or before the end of the record before"
  past-end : endAt roll at < startAt roll at → Wrong roll at previous
  before-previous : startAt roll at < previous → Wrong roll at previous
  -- "the content of a Str starts before the token, ends past it, or ends before it starts." (6)
  content-before : kindAt roll at ≡ 6 → contentStart roll at < startAt roll at → Wrong roll at previous
  content-past : kindAt roll at ≡ 6 → endAt roll at < contentEnd roll at → Wrong roll at previous
  content-order : kindAt roll at ≡ 6 → contentEnd roll at < contentStart roll at → Wrong roll at previous

-- none of them: t is the record's token
pub record Sound (roll : List ℕ) (at previous : ℕ) (t : Token) : Type 0 where
  pub four : at + 4 ≤ length roll
  pub room : at + lengthAt roll at ≤ length roll
  pub known : KindLength (kindAt roll at) (lengthAt roll at)
  pub right : Wrong roll at previous → ⊥
  pub token : TokenAt roll at t

-- ---- one record: its token and where the next one stands, or a refusal's number and place

pub data Stepped : Type 0 where
  yielded : Token → ℕ → Stepped
  stopped : ℕ → ℕ → Stepped

-- REQUESTS, "Reading a roll": "One step, from an offset and the end of the token before, gives the token there and the offset of the next record, or a
-- refusal with its place."
pub data Steps (roll : List ℕ) (at previous : ℕ) : Stepped → Type 0 where
  -- "A step at the roll's length or past it gives 24 at that length."
  no-eof : length roll ≤ at → Steps roll at previous (stopped 24 (length roll))
  twenty-two : TooFew roll at → Steps roll at previous (stopped 22 at)
  twenty-three : at < length roll → (TooFew roll at → ⊥) → NoKind roll at → Steps roll at previous (stopped 23 at)
  twenty-four : at < length roll → (TooFew roll at → ⊥) → (NoKind roll at → ⊥) → Wrong roll at previous → Steps roll at previous (stopped 24 at)
  -- REQUESTS, "End of a roll": "Bytes behind an Eof are refused by 24 at the first of them, and nothing else is checked there."
  after-eof : {t : Token} → Sound roll at previous t → t.kind ≡ tk.Eof → at + lengthAt roll at < length roll
      → Steps roll at previous (stopped 24 (at + lengthAt roll at))
  -- the token, with its values
  yields : {t : Token} → Sound roll at previous t → (t.kind ≡ tk.Eof → at + lengthAt roll at ≡ length roll)
      → Steps roll at previous (yielded t (at + lengthAt roll at))

-- ---- the roll: its tokens, or the first refusal

pub data Outcome : Type 0 where
  tokens : List Token → Outcome
  refused : ℕ → ℕ → Outcome

abbrev pub prepend : Token → Outcome → Outcome
prepend t (tokens ts) = tokens (t ∷ ts)
prepend t (refused j a) = refused j a

-- from an offset on, after a token that ends at `previous`
pub data Reads (roll : List ℕ) : ℕ → ℕ → Outcome → Type 0 where
  refuses : {at previous j a : ℕ} → Steps roll at previous (stopped j a) → Reads roll at previous (refused j a)
  -- REQUESTS, "End of a roll": "A roll ends with its only Eof."
  last : {at previous next : ℕ} {t : Token} → Steps roll at previous (yielded t next) → t.kind ≡ tk.Eof → Reads roll at previous (tokens (t ∷ []))
  more : {at previous next : ℕ} {t : Token} {x : Outcome} → Steps roll at previous (yielded t next) → t.kind ≢ tk.Eof
      → Reads roll next t.end x → Reads roll at previous (prepend t x)

-- REQUESTS, "Reading a roll": "Reading a roll is stepping from 0, with the end 0 before it"
abbrev pub ReadsRoll : List ℕ → Outcome → Type 0
ReadsRoll roll x = Reads roll 0 0 x
