-- A record by its form: what it has of its kind, as the code hands it on.
use Rattle.std.specs.Prelude.{ℕ, ◌+◌, ◌*◌, ◌-◌, ◌%◌, ◌^◌, ◌≤◌, ◌<◌, ◌≡◌, Bool, if◌then◌else◌, List, [], ◌∷◌, ◌++◌, ◌==◌, length, take, drop}
use Rattle.token.specs.paper.Kinds.{kindNumber}
use Rattle.token.specs.paper.Records.{bit, Value, one, four, eight, valuesOf, headLength, intLength, longLength, strLength, lineLength, recordLength, fieldsOf}
use Rattle.words.specs.Joins.{Bytes}
use Rattle.words.specs.Words.{le4, le8, oneAt, twoAt, fourAt, eightAt}
use Rattle.token.specs.declared.kinds.TokenKind.{TokenKind}
use Rattle.token.specs.declared.kinds.Form.{Form}
use Rattle.token.specs.declared.form.Held.{Held}

-- the values as one number, the first in the lowest bytes
abbrev pub joined : List Value → ℕ
joined [] = 0
joined (one v ∷ vs) = v
joined (four v ∷ []) = v
joined (four v ∷ w ∷ vs) = v % 4294967296 + joined (w ∷ vs) % 4294967296 * 4294967296
joined (eight v ∷ vs) = v

unfoldable pub formOf : TokenKind → Form
formOf k = record { number = kindNumber k; length = recordLength k; values = joined (valuesOf k) }

-- a kind without values
abbrev pub plainForm : ℕ → Form
plainForm number = record { number = number; length = headLength; values = 0 }

-- no record is longer
abbrev pub mostLength : ℕ
mostLength = longLength

-- the lengths that records have
pub data Known : ℕ → Type 0 where
  bare : Known headLength
  line : Known lineLength
  int : Known intLength
  long : Known longLength
  str : Known strLength

-- length and kind as one number of four bytes, the length in its lower two
abbrev pub headNumber : ℕ → ℕ → ℕ
headNumber length number = length + 65536 * number

-- the first 13 bytes by that number
unfoldable pub headBytes : ℕ → ℕ → ℕ → Bool → List ℕ
headBytes head start end cut = le4 head ++ (le4 start ++ (le4 end ++ (bit cut ∷ [])))

-- the first 13 bytes, then as many bytes of the values as the length has
unfoldable pub byForm : Form → ℕ → ℕ → Bool → List ℕ
byForm f start end cut = fieldsOf f.length f.number start end cut ++ take (f.length - headLength) (le8 f.values)

-- ---- read back

-- the values as one number: as many bytes of them as the record's length has
unfoldable pub valuesAt : List ℕ → ℕ → ℕ → ℕ
valuesAt bytes at size =
    if size == lineLength then oneAt bytes at
    else if size == intLength then fourAt bytes at
    else if size == longLength then eightAt bytes at
    else 0

-- the record at a place: length (2 bytes, whole record), kind (2), start (4), end (4), cut (1), then the values
unfoldable pub heldAt : List ℕ → ℕ → Held
heldAt bytes at =
    record {
      number = twoAt bytes (at + 2);
      length = twoAt bytes at;
      values = valuesAt bytes (at + headLength) (twoAt bytes at);
      start = fourAt bytes (at + 4);
      end = fourAt bytes (at + 8);
      cut = oneAt bytes (at + 12);
    }

-- what a record from a to e can hold: each number fits its bytes
pub record Storable (f : Form) (a e : ℕ) : Type 0 where
  pub known : Known f.length
  pub number : f.number < 65536
  pub values : f.values < 256 ^ (f.length - headLength)
  pub start : a < 4294967296
  pub end : e < 4294967296

-- the bytes that are stored for what was read
abbrev pub storedOf : Held → List ℕ
storedOf h = byForm (record { number = h.number; length = h.length; values = h.values }) h.start h.end (h.cut == 1)

-- a whole record stands at the start of these bytes
pub record Whole (l : List ℕ) : Type 0 where
  pub bytes : Bytes l
  pub known : Known (heldAt l 0).length
  pub room : (heldAt l 0).length ≤ length l
  pub cut : (heldAt l 0).cut ≤ 1

-- What whoever reads stored records may rely on. The contract of `read_record` asks for it.
pub record RecordForm : Type 0 where
  -- the record at a place is the first of what stands from there on
  pub held-on : (bytes : List ℕ) (at : ℕ) → heldAt bytes at ≡ heldAt (drop at bytes) 0
  -- a record that is stored, whatever follows it, is read as it was
  pub read-back : (f : Form) (start end : ℕ) (cut : Bool) (rest : List ℕ) → Storable f start end
      → heldAt (byForm f start end cut ++ rest) 0
      ≡ record { number = f.number; length = f.length; values = f.values; start = start; end = end; cut = bit cut }
  -- of a whole record's bytes nothing is lost: what is read from them is stored as the same bytes
  pub stored-again : (l : List ℕ) → Whole l → storedOf (heldAt l 0) ≡ take (heldAt l 0).length l
