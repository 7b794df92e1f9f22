-- The answer blocks: stores that cover them, the values in eight bytes, and what hosts are told by what the code hands on.
use Prim.Native.Nat.{ℕ, ◌/◌, ◌%◌, ◌<◌}
use mathlib.Core.Path.{◌≡◌, refl, sym, ◌∙◌, ap}
use mathlib.Core.Bool.{Bool, true, false, cond}
use mathlib.Core.List.{List, ◌∷◌, ◌++◌}
use lib.ListN.{length, take, drop, replicate, length-append}
use lib.Seq.{sets}
use native.Mathlib.Nat.{zero-add}
use native.Mathlib.Omega.{arith}
use lib.Dec.{eqb}
use denote.Laws.{Is}
use denote.Enum.Declared.{row}
use denote.Enum.Laws.{owed, vals}
use Rattle.words.specs.Words.{le2, le4, le8, blockOf, Told, told}
use Rattle.words.proofs.Stores.{after, whole, length-block}
use Rattle.words.proofs.Joins.{eights}
use Rattle.token.specs.paper.Kinds.{Token, kindNumber}
use Rattle.token.specs.paper.Records.{bit, valuesOf, values, recordLength, fieldsOf, headOf, recordOf}
use Rattle.token.specs.code.Form.{joined, formOf, byForm}
use Rattle.token.specs.declared.kinds.TokenKind.{TokenKind}
use Rattle.token.specs.declared.kinds.TokenKind.TheVariants as tk
use Rattle.token.proofs.form.Laws.{form-record}
use Rattle.token.specs.contracts.kinds.TokenKind.{the_type}
use Rattle.token.proofs.kinds.TokenKind.TheLaws.{the_laws}
use Rattle.rolls.specs.paper.Roll.{Outcome, tokens, refused}
use Rattle.rolls.specs.computed.Roll.{readAt, readRoll}
use Rattle.rolls.specs.paper.Host.{outcomeTold, steppedTold, tokenBlock, stopBlock}
use Rattle.rolls.specs.computed.Host.{rollTold, recordTold}
use Rattle.rolls.specs.code.Roll.{Counted, total, counted}
use Rattle.rolls.proofs.theorems.Kinds.{Carries, int, long, content, mark, nothing, carries}

-- ---- stores

-- two blocks of 16 bytes and a number of eight cover 40 bytes
put-forty : (l : List ℕ) (a b c d e f g h x : ℕ) → length l ≡ 40
    → sets (sets (sets l 0 (blockOf a b c d)) 16 (blockOf e f g h)) 32 (le8 x) ≡ blockOf a b c d ++ (blockOf e f g h ++ le8 x)
put-forty l a b c d e f g h x k =
    let first = blockOf a b c d in
    let second = blockOf e f g h in
    let n1 = length-block a b c d in
    let n2 = length-block e f g h in
    let n3 = eights.size x in
    let size : length (first ++ (second ++ le8 x)) ≡ 40 = simp (length-append, n1, n2, n3) in
    after second (le8 x) (sets l 0 first) _ 16 32 refl (omega arith)
    ∙ after first (second ++ le8 x) l _ 0 16 refl (omega arith)
    ∙ whole l (first ++ (second ++ le8 x)) (k ∙ sym size)

-- ---- the values in eight bytes

-- a kind as a function is handed it: what it holds fits its type
abbrev pub Handed : TokenKind → Type 0
Handed k = Is (row the_type) k (vals the_type the_laws k)

int-fits : (v : ℕ) → Handed (tk.IntLit v) → v < 4294967296
int-fits v h = (owed the_type the_laws (tk.IntLit v) _ h).0.1

eight-bit : (b : Bool) → le8 (bit b) ≡ bit b ∷ replicate 7 0
unfolding le8 le4
eight-bit true = refl
eight-bit false = refl

-- the values as one number are the values as the record has them, with zeros behind them
eight-values : {k : TokenKind} → Carries k → Handed k → le8 (joined (valuesOf k)) ≡ take 8 (values k ++ replicate 8 0)
unfolding values le8 le4 le2 recordLength byForm formOf recordOf headOf fieldsOf
eight-values (int v) h =
    let f = int-fits v h in
    let low : v % 4294967296 ≡ v = omega arith in
    let high : v / 4294967296 ≡ 0 = omega arith in
    rw (low, high)
eight-values (long v) h = refl
eight-values (content a e) h = ap (drop 13) (form-record (record { kind = tk.Str a e; start = 0; end = 0; cut = false }))
eight-values (mark b) h = eight-bit b
eight-values (nothing k n l b) h = rw n

-- ---- the block of a record

token-parts : (t : Token) (next : ℕ)
    → blockOf 0 0 (kindNumber t.kind) t.start ++ (blockOf t.end (bit t.cut) 0 next ++ take 8 (values t.kind ++ replicate 8 0)) ≡ tokenBlock t next
unfolding blockOf tokenBlock le4
token-parts t next = refl

stop-parts : (j a : ℕ) → blockOf j a 0 0 ++ (blockOf 0 0 0 0 ++ le8 0) ≡ stopBlock j a
unfolding blockOf stopBlock le4 le8
stop-parts j a = refl

pub put_stop_block : (l : List ℕ) (j a : ℕ) → length l ≡ 40
    → sets (sets (sets l 0 (blockOf j a 0 0)) 16 (blockOf 0 0 0 0)) 32 (le8 0) ≡ stopBlock j a
put_stop_block l j a k = put-forty l j a 0 0 0 0 0 0 0 k ∙ stop-parts j a

pub put_token_block : (l : List ℕ) (k : TokenKind) (start end : ℕ) (cut : Bool) (next : ℕ) → Handed k → length l ≡ 40
    → sets (sets (sets l 0 (blockOf 0 0 (formOf k).number start)) 16 (blockOf end (bit cut) 0 next)) 32 (le8 (formOf k).values)
    ≡ tokenBlock (record { kind = k; start = start; end = end; cut = cut }) next
unfolding formOf
put_token_block l k start end cut next h size =
    put-forty l 0 0 (kindNumber k) start end (bit cut) 0 next (joined (valuesOf k)) size
    ∙ ap (λ v. blockOf 0 0 (kindNumber k) start ++ (blockOf end (bit cut) 0 next ++ v)) (eight-values (carries k) h)
    ∙ token-parts (record { kind = k; start = start; end = end; cut = cut }) next

-- ---- what is told, by what the code hands on

abbrev pub countedTold : ℕ → Counted → Told
countedTold bytes (total n) = told 0 (blockOf 0 0 n bytes)
countedTold bytes (Counted.stopped j a) = told j (blockOf j a 0 0)

outcome-told : (bytes : ℕ) (x : Outcome) → outcomeTold bytes x ≡ countedTold bytes (counted 0 x)
unfolding counted
outcome-told bytes (tokens ts) = ap (λ n. told 0 (blockOf 0 0 n bytes)) (sym (zero-add (length ts)))
outcome-told bytes (refused j a) = refl

pub told-roll : (roll block : List ℕ)
    → rollTold roll block ≡ cond (eqb (length block) 16) (countedTold (length roll) (counted 0 (readRoll roll))) (told 20 block)
unfolding rollTold
told-roll roll block = ap (λ x. cond (eqb (length block) 16) x (told 20 block)) (outcome-told (length roll) (readRoll roll))

pub told-record : (roll : List ℕ) (at previous : ℕ) (block : List ℕ)
    → recordTold roll at previous block ≡ cond (eqb (length block) 40) (steppedTold (readAt roll at previous)) (told 20 block)
unfolding recordTold
told-record roll at previous block = refl

-- with these the prover finds what both functions tell
pub ruleset answers = (told-roll, told-record)
