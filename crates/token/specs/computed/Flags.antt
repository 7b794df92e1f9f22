-- What is kept of a gap while its pieces pass by: enough for the marks and the cut, with no look past a comment. A block comment after a line
-- end is pending until what follows it is known: the next line end of the gap lets it go, any comment, token or the end of script makes it the cut.
use Rattle.std.specs.Prelude.{Bool, true, false, ◌||◌}

-- a line end of the gap came; a comment came since its last line end; a block comment came after a line end, and only blanks since; the cut is set
pub record Gap : Type 0 where
  pub newline : Bool
  pub comment : Bool
  pub pending : Bool
  pub cut : Bool

-- the four kinds of gap pieces
pub data GapKind : Type 0 where
  blank lineEnd lineComment blockComment : GapKind

-- at the gap's start
abbrev pub fresh : Gap
fresh = record { newline = false; comment = false; pending = false; cut = false }

-- after one piece more
abbrev pub push : GapKind → Gap → Gap
push GapKind.blank g = g
push GapKind.lineEnd g = record { newline = true; comment = false; pending = false; cut = g.cut }
push GapKind.lineComment g = record { newline = g.newline; comment = true; pending = false; cut = g.cut || g.pending }
push GapKind.blockComment g = record { newline = g.newline; comment = true; pending = g.newline; cut = g.cut || g.pending }

-- the cut of the token that ends the gap
abbrev pub cutOf : Gap → Bool
cutOf g = g.cut || g.pending
