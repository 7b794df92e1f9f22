-- What is proved of every script, put together.
use Prim.Native.Nat.{ℕ}
use mathlib.Core.List.{List}
use Rattle.lines.specs.Theorems.{LineTheorems}
use Rattle.lines.proofs.index.Laws.{lines-length}
use Rattle.lines.proofs.theorems.Starts.{starts-are}
use Rattle.lines.proofs.theorems.Begins.{line-starts, last-line}
use Rattle.lines.proofs.theorems.Counting.{counted-is, only-good}
use Rattle.lines.proofs.theorems.Hosts.{builds-are, index-unchanged, index-built-first, answers-are, answers-only, counted-told}
use Rattle.lines.proofs.theorems.Examples.{line-examples}

pub line_theorems : (script : List ℕ) → LineTheorems script
line_theorems script = record {
  starts = starts-are script;
  line-starts = line-starts script;
  last-line = last-line script;
  counted = counted-is script;
  only-good = only-good script;
  builds = builds-are script;
  unchanged = index-unchanged script;
  answers = answers-are script;
  answers-one = λ index a block x is h. answers-only script index a block (λ z. rw lines-length at (is z)) h;
  over-built = λ index block z a l c p other e.
      let b = index-built-first script index block z in
      let t = b.1 in
      counted-told script _ a other b.0 (record { sixteen = e; in-limit = t.in-limit; utf8 = t.utf8 }) l c (only-good script t.utf8 a l c p) p;
  examples = line-examples;
}
