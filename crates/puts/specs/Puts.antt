-- What it means that a text is put behind another one.
use Rattle.std.specs.Prelude.{◌≡◌, ℕ, ◌+◌, ◌<◌, ◌≤◌, List, ◌++◌, length, Result, OnOk, OnErr, Vec, vec_len, vec_capacity}
use Rattle.std.specs.Io.{StartsWith}

-- `more` is put behind the text: all of it, or, where memory lacks, a part of it at most. Memory lacks only where the text had no room for all of it.
pub record Puts {A T E : Type 0} (old new : Vec ℕ A) (r : Result T E) (more : List ℕ) : Type 0 where
  pub ok : OnOk r (new.items ≡ old.items ++ more)
  pub kept : OnErr r (StartsWith new.items old.items)
  pub part : OnErr r (StartsWith (old.items ++ more) new.items)
  pub full : OnErr r (vec_capacity old < vec_len old + length more)
  pub capacity : vec_capacity old ≤ vec_capacity new
