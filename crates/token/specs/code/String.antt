-- What `string` answers.
use Rattle.std.specs.Prelude.{ℕ, ◌+◌, ◌-◌, Bool, if◌then◌else◌, not, ◌&&◌, ◌||◌, List, [], ◌∷◌, length, drop, slice_index, ◌==◌, nat_le, nat_lt, Result, Ok}
use Rattle.std.specs.List.{prefix_len}
use Rattle.chars.specs.paper.Quoted.{oneOf}
use Rattle.chars.specs.paper.Text.{Text, from, place}
use Rattle.chars.specs.computed.Runs.{afterRun}
use Rattle.token.specs.paper.Tests.{isAny, dollarBrace, notBacktick}
use Rattle.token.specs.computed.Answer.{Esc, unbroken, broken, exactHexes, afterSlash, Closing, closed, wrong, closePlain, closePrefixed}
use Rattle.token.specs.declared.kinds.TokenKind.{TokenKind}
use Rattle.token.specs.declared.kinds.TokenKind.TheVariants as tk
use Rattle.token.specs.declared.cursor.Cursor.{Cursor}
use Rattle.token.specs.declared.refusal.Refusal.TheVariants as refusal
use Rattle.token.specs.declared.refusal.Refused.{Refused}
use Rattle.token.specs.declared.string.Span.{Span}
use Rattle.token.specs.code.Cursor.{cursorAt}
use Rattle.token.specs.code.Loops.{stepsWhile}
use Rattle.token.specs.code.Refusal.{refusedFor, refusedBy}

-- where a part of a piece ends, or why it does not
abbrev pub EndAnswer : Type 0
EndAnswer = Result Cursor Refused

abbrev pub endAt : Cursor → EndAnswer
endAt c = Ok c

-- a string's end
unfoldable pub endedOf : ℕ → Closing → EndAnswer
endedOf n (closed r) = endAt (cursorAt (place n r))
endedOf n (wrong j q) = refusedBy j (place n q)

-- an escape's end, from behind its backslash
abbrev pub escEnd : ℕ → Text → Esc → EndAnswer
escEnd n s (unbroken k) = endAt (cursorAt (place n (drop k s)))
escEnd n s (broken j q) = refusedBy j (place n q)

unfoldable pub escapeOf : ℕ → Text → EndAnswer
escapeOf n s = escEnd n s (afterSlash s)

-- four hex digits
unfoldable pub hexesOf : ℕ → Text → EndAnswer
hexesOf n s = escEnd n s (exactHexes 4 0 s)

-- a single string from behind its quote; p: it is prefixed
unfoldable pub closeSingle : Bool → Text → Closing
closeSingle p s =
    let prefixed = closePrefixed s in
    let plain = closePlain 0 s in
    if p then prefixed else plain

-- what stands for itself in every string
unfoldable pub isOrdinary : ℕ → Bool
isOrdinary c = not (oneOf "\n\"$\\" c)

-- a `$` in a prefixed string
unfoldable pub dollarOf : ℕ → Text → EndAnswer
dollarOf n s = if dollarBrace s then refusedFor refusal.DollarBrace (place n s) else endAt (cursorAt (place n (drop 1 s)))

-- one step in a single string, by the byte at the place i: an LF is refused, a `$` of a prefixed string is judged by what follows it, a backslash of a
-- plain one is passed with its escape, and all else is passed as one byte
unfoldable pub singleItem : Bool → List ℕ → ℕ → EndAnswer
singleItem p s i =
    let byte = slice_index s i in
    let dollar = dollarOf (length s) (from s i) in
    let escape = escapeOf (length s) (from s (i + 1)) in
    let next = endAt (cursorAt (i + 1)) in
    if byte == 0x0A then refusedFor refusal.LineFeed i
    else if p && byte == 0x24 then dollar
    else if not p && byte == 0x5C then escape
    else next

-- one step in a triple string: a backslash is refused, a `$` of a prefixed string is judged by what follows it, and all else is passed as one byte
unfoldable pub tripleItem : Bool → List ℕ → ℕ → EndAnswer
tripleItem p s i =
    let byte = slice_index s i in
    let dollar = dollarOf (length s) (from s i) in
    let next = endAt (cursorAt (i + 1)) in
    if byte == 0x5C then refusedFor refusal.BackslashInTriple i else if p && byte == 0x24 then dollar else next

-- past the backtick with which the text r begins, of the name that s begins; refused, where none is left
abbrev pub tickEnd : ℕ → Text → Text → EndAnswer
tickEnd n s [] = refusedFor refusal.OpenBacktick (place n s)
tickEnd n s (c ∷ r) = endAt (cursorAt (place n r))

-- a backtick's end, from its opening on
unfoldable pub backtickOf : ℕ → Text → EndAnswer
backtickOf n s = if isAny "`" (drop 1 s) then refusedFor refusal.EmptyBacktick (place n s) else tickEnd n s (afterRun notBacktick (drop 1 s))

-- the end of the bytes from a to b without a last quote, if one is left
unfoldable pub lastOff : List ℕ → ℕ → ℕ → ℕ
lastOff s a b = if nat_lt a b && slice_index s (b - 1) == 0x22 then b - 1 else b

abbrev pub spanKind : Span → TokenKind
spanKind c = tk.Str c.start c.end

-- sixteen quotes stand at the place i
abbrev pub sixteenAt : List ℕ → ℕ → Bool
sixteenAt s i = nat_le 16 (prefix_len (λ b. b == 0x22 || b == 0x22) (drop i s))

-- sixteen quotes at each end of the bytes from a to b, thirty-two in all
unfoldable pub blocksOff : List ℕ → ℕ → ℕ → Bool
blocksOff s a b = nat_le (a + 32) b && (sixteenAt s a && sixteenAt s (b - 16))

-- the bytes from a to b
abbrev pub spanAt : ℕ → ℕ → Span
spanAt a b = record { start = a; end = b }

-- sixteen quotes at each end of them
abbrev pub blockMore : List ℕ → Span → Bool
blockMore s c = blocksOff s c.start c.end

-- what stands between those
abbrev pub blockLess : Span → Span
blockLess c = spanAt (c.start + 16) (c.end - 16)

-- what is left of the bytes from a to b: quotes taken off both ends by sixteens, while sixteen stand at each. A step takes thirty-two bytes: as many
-- steps as bytes are enough.
unfoldable pub blocksTaken : List ℕ → ℕ → ℕ → Span
blocksTaken s a b = stepsWhile (blockMore s) blockLess (b - a) (spanAt a b)
