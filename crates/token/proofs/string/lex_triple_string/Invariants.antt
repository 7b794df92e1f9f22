-- What the walk finds from here on is what it finds from behind the three quotes on.
use Rattle.token.proofs.cursor.Words.{◌≡◌, ◌≤◌, ◌-◌, length, drop, from, closeTriple}
use Rattle.token.proofs.string.lex_triple_string.Given as goal

abbrev pub invariant-loop-d : goal.invariant-loop-d
invariant-loop-d l = (l.d.at ≤ length l.s) × (closeTriple l.prefixed (from l.s l.d.at) ≡ closeTriple l.prefixed (drop 3 (from l.s l.fn.c.at)))

abbrev pub decreases-loop-d : goal.decreases-loop-d
decreases-loop-d l = length l.s - l.d.at
