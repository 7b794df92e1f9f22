-- A record by its form: the bytes are the token's record, its length is one of five, and its two stores are one.
use Rattle.token.proofs.cursor.Words.{ℕ, ◌+◌, ◌*◌, ◌-◌, ◌/◌, ◌%◌, ◌≤◌, ◌≡◌, refl, sym, ◌∙◌, ap, Bool, true, false, List, [], ◌∷◌, ◌++◌, append-nil, length, take, set, length-append, sets, length-take-le, arith, kindNumber, Token, valuesOf, values, headLength, intLength, longLength, lineLength, recordLength, fieldsOf, headOf, recordOf, mostLength, joined, formOf, plainForm, headNumber, headBytes, byForm, le4, le8, Form, TokenKind, after, low-four}
pub use Rattle.token.specs.code.Form.{Known}
use Rattle.token.specs.declared.kinds.TokenKind.TheVariants as tk
use Rattle.token.proofs.form.Stores.{length-fields, head-fields}

-- ---- lengths

pub known-least : {n : ℕ} → Known n → headLength ≤ n
known-least Known.bare = omega arith
known-least _ = omega arith

pub known-most : {n : ℕ} → Known n → n ≤ mostLength
known-most Known.bare = omega arith
known-most _ = omega arith

-- the lengths of the code's constants are among them
pub known-bare : Known headLength
known-bare = Known.bare

pub ruleset known = (Known.bare, Known.line, Known.int, Known.long, Known.str)

length-eight : (x : ℕ) → length (le8 x) ≡ 8
unfolding le8 le4
length-eight x = refl

pub length-form : (f : Form) (start end : ℕ) (cut : Bool) → Known f.length → length (byForm f start end cut) ≡ f.length
unfolding byForm
length-form f start end cut h =
    let a = known-least h in
    let b = known-most h in
    let v = length-take-le (f.length - headLength) (le8 f.values) (let n = length-eight f.values in omega arith) in
    grind (arith, length-append, length-fields)

-- ---- values

-- two numbers of four bytes as one of eight
two-fours : (a e : ℕ) → le8 (a % 4294967296 + e % 4294967296 * 4294967296) ≡ le4 a ++ le4 e
unfolding le8
two-fours a e =
    let x = a % 4294967296 + e % 4294967296 * 4294967296 in
    let p : x % 4294967296 ≡ a % 4294967296 = omega arith in
    let q : x / 4294967296 ≡ e % 4294967296 = omega arith in
    rw (p, q, low-four a, low-four e)

pub take-one : (v : ℕ) → take 1 (le8 v) ≡ v % 256 ∷ []
unfolding le8 le4
take-one v = let a : v % 4294967296 % 256 ≡ v % 256 = omega arith in rw a

pub take-four : (v : ℕ) → take 4 (le8 v) ≡ le4 (v % 4294967296)
unfolding le8 le4
take-four v = refl

pub take-eight : (v : ℕ) → take 8 (le8 v) ≡ le8 v
unfolding le8 le4
take-eight v = refl

-- the bytes of the values are those that the form has
pub form-values : (k : TokenKind) → take (recordLength k - headLength) (le8 (joined (valuesOf k))) ≡ values k
unfolding recordLength values le4 le8
form-values (tk.IntLit v) = take-four v ∙ low-four v
form-values (tk.LongLit v) = take-eight v ∙ sym (append-nil (le8 v))
form-values (tk.Str a e) = take-eight (a % 4294967296 + e % 4294967296 * 4294967296) ∙ two-fours a e
form-values (tk.Newline true) = refl
form-values (tk.Newline false) = refl
form-values _ = refl

-- ---- forms and records

pub form-known : (k : TokenKind) → Known (formOf k).length
unfolding formOf recordLength values le4 le8
form-known (tk.IntLit v) = Known.int
form-known (tk.LongLit v) = Known.long
form-known (tk.Str a e) = Known.str
form-known (tk.Newline mark) = Known.line
form-known _ = Known.bare

pub form-length : (k : TokenKind) → (formOf k).length ≡ recordLength k
unfolding formOf
form-length k = refl

-- a record stored by its form is the token's
pub form-record : (t : Token) → byForm (formOf t.kind) t.start t.end t.cut ≡ recordOf t
unfolding byForm formOf recordOf headOf
form-record t = ap (λ v. fieldsOf (recordLength t.kind) (kindNumber t.kind) t.start t.end t.cut ++ v) (form-values t.kind)

-- the same for a form that is known to be the kind's
pub record-by : (f : Form) (t : Token) → f ≡ formOf t.kind → byForm f t.start t.end t.cut ≡ recordOf t
record-by f t e = ap (λ g. byForm g t.start t.end t.cut) e ∙ form-record t

pub length-by : (f : Form) (k : TokenKind) → f ≡ formOf k → f.length ≡ recordLength k
length-by f k e = rw e (form-length k)

pub eof-form : plainForm (kindNumber tk.Eof) ≡ formOf tk.Eof
unfolding formOf recordLength values
eof-form = refl

-- ---- stores

-- in as many bytes as the length has
module _ (l : List ℕ) (w n v : ℕ) where
  pub put-one : n ≡ lineLength → sets l w (take (n - headLength) (le8 v)) ≡ set l w (v % 256)
  put-one e = rw e (ap (sets l w) (take-one v))

  pub put-some : n ≡ intLength → sets l w (take (n - headLength) (le8 v)) ≡ sets l w (le4 v)
  put-some e = rw e (ap (sets l w) (take-four v ∙ low-four v))

  pub put_most : n ≡ longLength → sets l w (take (n - headLength) (le8 v)) ≡ sets l w (le8 v)
  put_most e = rw e (ap (sets l w) (take-eight v))

-- the head and the values are the record
pub put-both : (l : List ℕ) (w h start end : ℕ) (cut : Bool) (f : Form) → Known f.length → h ≡ headNumber f.length f.number
    → sets (sets l w (headBytes h start end cut)) (w + headLength) (take (f.length - headLength) (le8 f.values)) ≡ sets l w (byForm f start end cut)
unfolding byForm
put-both l w h start end cut f k e =
    let a = known-most k in
    let fields = fieldsOf f.length f.number start end cut in
    let head = head-fields h f.length f.number start end cut (omega arith) e in
    after fields (take (f.length - headLength) (le8 f.values)) l _ w (w + headLength) (ap (sets l w) head)
    (ap (λ j. w + j) (sym (length-fields f.length f.number start end cut)))

pub ruleset record_stores = (known-least, put-one, put-some, put_most, put-both)
