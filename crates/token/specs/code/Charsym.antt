-- What `charsym` answers: characters and symbols, by what follows the `'`.
use Rattle.std.specs.Prelude.{ℕ, false, if◌then◌else◌, not, ◌&&◌, drop, Option, Some, None}
use Rattle.chars.specs.paper.Text.{Text, place, idStart}
use Rattle.chars.specs.computed.Runs.{afterRun}
use Rattle.token.specs.paper.Tests.{isAny, apostrophe, plainChar, opSign, freeSign, opensComment}
use Rattle.token.specs.computed.Answer.{Found, afterSlash, afterIdent, escapedOf}
use Rattle.token.specs.code.Cursor.{cursorAt}
use Rattle.token.specs.declared.cursor.Cursor.{Cursor}
use Rattle.token.specs.declared.kinds.TokenKind.TheVariants as tk

-- an escape, from behind its backslash
abbrev pub escapedChar : Text → Found
escapedChar m = escapedOf m (afterSlash m)

-- a symbol, or refusal 16
unfoldable pub symbolOf : Text → Found
symbolOf m =
    let word = Found.token tk.CharSym (afterIdent false (drop 1 m)) in
    let run = Found.token tk.CharSym (afterRun freeSign m) in
    if idStart m then word
    else if freeSign m then run
    else if isAny ";" m && not (opSign (drop 1 m)) then Found.token tk.CharSym (drop 1 m)
    else Found.stuck 16 m

-- a character that is no escape, or a symbol, or refusal 16
unfoldable pub plainOf : Text → Found
plainOf m = if plainChar m && apostrophe (drop 1 m) then Found.token tk.CharSym (drop 2 m) else symbolOf m

-- where what is found ends; none, where nothing is
abbrev pub endOf : ℕ → Found → Option Cursor
endOf n (Found.token k r) = Some (cursorAt (place n r))
endOf n (Found.stuck j q) = None
endOf n (Found.gap g r) = None

-- where a run of operator signs ends; none, where a comment begins
unfoldable pub runSymbolEnd : ℕ → Text → Option Cursor
runSymbolEnd n m = if opensComment m then None else Some (cursorAt (place n (afterRun freeSign m)))
