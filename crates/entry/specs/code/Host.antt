-- What the code's judgement says, and what a buffer holds that it was lent.
use Rattle.std.specs.Prelude.{ℕ, ◌≤◌, ◌≡◌, IsFalse, List, ◌++◌, length, Result, Ok, Err}
use Rattle.words.specs.Words.{blockOf}
use Rattle.token.specs.computed.Answer.{answer}
use Rattle.token.specs.paper.Records.{mostBytes}
use Rattle.token.specs.code.Records.{needFor, Needs, begun, storedFrom}
use Rattle.token.specs.declared.counts.Need.{Need}
use Rattle.entry.specs.computed.Check.{cleanOf}
use Rattle.entry.specs.computed.Host.{granted, rejected, lacking, tooMany, Verdict}
use Rattle.entry.specs.code.Refusal.{refusalBy}
use Rattle.entry.specs.declared.limits.Limits.{Limits}
use Rattle.entry.specs.declared.refusal.Refused.{Refused}

-- the verdict with the tokens counted: what they need, whether it is lent or not
unfoldable pub judgedOf : Verdict → Result Need Refused
judgedOf (granted ts) = Ok (needFor ts)
judgedOf (lacking ts) = Ok (needFor ts)
judgedOf (rejected j a) = Err (record { what = refusalBy j; place = a })

-- eight numbers of what is needed, as a host is told them that measures
abbrev pub blockBy : Need → List ℕ
blockBy n = blockOf 0 0 n.tokens n.bytes ++ blockOf n.counts.int_lits n.counts.long_lits n.counts.strs n.counts.newlines

-- the script passes 17, 27, 18 and 29, is not refused otherwise, and its records need so much
pub record Judged (limits : Limits) (script : List ℕ) (n : Need) : Type 0 where
  pub in-limit : length script ≤ mostBytes
  pub checked : Ok tt ≡ cleanOf limits.bytes script
  pub needs : Needs (answer script) n
  pub few : IsFalse (tooMany limits.tokens n.tokens)

-- What a buffer holds that is lent for judging: the records that fit, where the script is read, before a refusal too; as it was, where it is not.
abbrev pub storedBy : Result (Unit {0}) Refused → List ℕ → List ℕ → List ℕ
storedBy (Ok x) stored scratch = stored
storedBy (Err e) stored scratch = scratch

unfoldable pub scratchOf : Limits → List ℕ → List ℕ → List ℕ
scratchOf limits script scratch = storedBy (cleanOf limits.bytes script) (storedFrom script begun scratch) scratch
