-- What the walk finds from here on is what it finds from the start on.
use Rattle.token.proofs.cursor.Words.{◌≡◌, ◌≤◌, ◌-◌, length, from, closeSingle}
use Rattle.token.proofs.string.lex_items.Given as goal

abbrev pub invariant-loop-d : goal.invariant-loop-d
invariant-loop-d l = (l.d.at ≤ length l.s) × (closeSingle l.prefixed (from l.s l.d.at) ≡ closeSingle l.prefixed (from l.s l.fn.c.at))

abbrev pub decreases-loop-d : goal.decreases-loop-d
decreases-loop-d l = length l.s - l.d.at
