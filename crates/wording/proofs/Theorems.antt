-- Comment wording stays out of the records: specs/Theorems.
use Rattle.std.proofs.Common.{◌∙◌, ap}
use Rattle.token.specs.paper.Records.{records}
use Rattle.entry.specs.paper.Host.{numberSeen}
use Rattle.wording.specs.Theorems.{WordingTheorems}
use Rattle.wording.proofs.Hosts.{symmetric, same-tokens, one-tokens, stays, same-seen}
use Rattle.wording.proofs.Examples.{examples}

pub wording_theorems : WordingTheorems
wording_theorems = record {
  same-records = λ limits others a b ts us same r q. ap records (one-tokens a b same ts us r.clean.valid.utf8 r.tokensOf q.tokensOf);
  same-seen = same-seen;
  stays-accepted = λ limits a b buffer block same h utf8 unmarked. ap numberSeen (stays limits a b buffer block same h utf8 unmarked) ∙ h;
  same-tokens = λ a b ts same utf8 h. same-tokens a b same ts utf8 h;
  symmetric = symmetric;
  examples = examples;
}
