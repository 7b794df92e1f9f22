-- One record and the whole roll, computed.
use Rattle.std.specs.Prelude.{ℕ, zero, suc, ◌+◌, ◌-◌, ◌/◌, ◌%◌, Bool, false, if◌then◌else◌, not, ◌&&◌, ◌||◌, List, [], ◌∷◌, length, ◌==◌, nat_le, nat_lt}
use Rattle.token.specs.paper.Kinds.{kindNumber, Token}
use Rattle.token.specs.paper.Records.{headLength, intLength, longLength, strLength, lineLength}
use Rattle.token.specs.code.Form.{heldAt}
use Rattle.token.specs.declared.kinds.Kw.{Kw}
use Rattle.token.specs.declared.kinds.Kw.TheVariants as kw
use Rattle.token.specs.declared.kinds.TokenKind.{TokenKind}
use Rattle.token.specs.declared.kinds.TokenKind.TheVariants as tk
use Rattle.token.specs.declared.form.Held.{Held}
use Rattle.rolls.specs.paper.Roll.{Stepped, yielded, stopped, Outcome, tokens, refused, prepend}

-- the length of a kind's record, by the kind's number; 0 where there is no such kind
unfoldable pub lengthFor : ℕ → ℕ
lengthFor n =
    let plain = if nat_le 1 n && nat_le n 18 || nat_le 32 n && nat_le n 45 then headLength else 0 in
    if n == 4 then intLength
    else if n == 5 then longLength
    else if n == 6 then strLength
    else if n == 17 then lineLength
    else plain

unfoldable pub isKind : ℕ → ℕ → Bool
isKind n size = not (size == 0) && size == lengthFor n

-- a keyword by its number, from 32 on; what is above 44 counts as `@`
unfoldable pub keywordFor : ℕ → Kw
keywordFor n =
    if n == 32 then kw.Case
    else if n == 33 then kw.Else
    else if n == 34 then kw.False
    else if n == 35 then kw.Function
    else if n == 36 then kw.If
    else if n == 37 then kw.Match
    else if n == 38 then kw.Return
    else if n == 39 then kw.Then
    else if n == 40 then kw.True
    else if n == 41 then kw.Colon
    else if n == 42 then kw.FatArrow
    else if n == 43 then kw.Assign
    else if n == 44 then kw.Hash
    else kw.At

-- the kind of a known number, with its values as one number; a number below 32 that is no other kind's counts as Eof's
unfoldable pub kindFor : ℕ → ℕ → TokenKind
kindFor n v =
    let content = tk.Str (v % 4294967296) (v / 4294967296) in
    let keyword = if nat_le 32 n then tk.Kw (keywordFor n) else tk.Eof in
    let marks =
    if n == 14 then tk.Comma
    else if n == 15 then tk.Semi
    else if n == 16 then tk.Dot
    else if n == 17 then tk.Newline (v == 1)
    else keyword in
    let braces = if n == 12 then tk.LBrace else if n == 13 then tk.RBrace else marks in
    let brackets =
    if n == 8 then tk.LParen
    else if n == 9 then tk.RParen
    else if n == 10 then tk.LBracket
    else if n == 11 then tk.RBracket
    else braces in
    let valued =
    if n == 4 then tk.IntLit (v % 4294967296)
    else if n == 5 then tk.LongLit v
    else if n == 6 then content
    else if n == 7 then tk.CharSym
    else brackets in
    if n == 1 then tk.Ident
    else if n == 2 then tk.OpId
    else if n == 3 then tk.BacktickId
    else valued

unfoldable pub tokenOf : Held → Token
tokenOf h = record { kind = kindFor h.number h.values; start = h.start; end = h.end; cut = h.cut == 1 }

-- do the values of the record break one of 24's rules?
unfoldable pub badValues : Held → Bool
badValues h =
    let from = h.values % 4294967296 in
    let to = h.values / 4294967296 in
    let content = nat_lt from h.start || nat_lt h.end to || nat_lt to from in
    if h.number == 4 then nat_lt 2147483647 h.values
    else if h.number == 5 then nat_lt 9223372036854775807 h.values
    else if h.number == 6 then content
    else if h.number == 17 then nat_lt 1 h.values
    else false

unfoldable pub isWrong : Held → ℕ → Bool
isWrong h previous = nat_lt 1 h.cut || nat_lt h.end h.start || nat_lt h.start previous || badValues h

-- Eof, and bytes after it
abbrev pub eofFollowed : Held → ℕ → Bool
eofFollowed h left = h.number == 18 && nat_lt h.length left

-- a whole record of a known kind, at `at`, with `left` bytes from there on
unfoldable pub stepHeld : Held → ℕ → ℕ → ℕ → Stepped
stepHeld h at left previous =
    let more = if eofFollowed h left then stopped 24 (at + h.length) else yielded (tokenOf h) (at + h.length) in
    if isWrong h previous then stopped 24 at else more

unfoldable pub readAt : List ℕ → ℕ → ℕ → Stepped
readAt roll at previous =
    let left = length roll - at in
    let h = heldAt roll at in
    let known = if isKind h.number h.length then stepHeld h at left previous else stopped 23 at in
    let whole = if nat_lt left 4 || nat_lt left h.length then stopped 22 at else known in
    if nat_le (length roll) at then stopped 24 (length roll) else whole

-- Eof ends the roll
abbrev pub isEof : TokenKind → Bool
isEof k = kindNumber k == 18

-- in at most `most` records; that they do not suffice can't come
unfoldable pub readIn : ℕ → List ℕ → ℕ → ℕ → Outcome
readIn zero roll at previous = refused 24 (length roll)
readIn (suc most) roll at previous =
    elim (readAt roll at previous) [
      | yielded t next ↦ if isEof t.kind then tokens (t ∷ []) else prepend t (readIn most roll next t.end)
      | stopped j a ↦ refused j a
    ]

-- every record has bytes, so that there are no more records than bytes left
unfoldable pub readFrom : List ℕ → ℕ → ℕ → Outcome
readFrom roll at previous = readIn (suc (length roll - at)) roll at previous

unfoldable pub readRoll : List ℕ → Outcome
readRoll roll = readFrom roll 0 0
