-- By the script's length; the theorems hold for every script.
use Rattle.entry.proofs.theorems.Hosts.{host-theorems}
use Rattle.entry.proofs.host.Laws.{entry-none}
use Rattle.entry.proofs.host.tokenize_within.Goals as goal

pub returns-then-answer-ne16 : goal.returns-then-answer-ne16
returns-then-answer-ne16 c = record {
  answer_after = entry-none c.args.limits.now c.args.script.now c.args.records.now c.args.answer.now c.if-answer-ne16.true;
  host_theorems = host-theorems c.args.limits.now c.args.script.now c.args.records.now c.args.answer.now;
}

pub returns-then-script-le-BRIEF_SCRIPT-clause-host_theorems : goal.returns-then-script-le-BRIEF_SCRIPT-clause-host_theorems
returns-then-script-le-BRIEF_SCRIPT-clause-host_theorems c = host-theorems c.args.limits.now c.args.script.now c.args.records.now c.args.answer.now

pub returns-then-script-le-SHORT_SCRIPT-clause-host_theorems : goal.returns-then-script-le-SHORT_SCRIPT-clause-host_theorems
returns-then-script-le-SHORT_SCRIPT-clause-host_theorems c = host-theorems c.args.limits.now c.args.script.now c.args.records.now c.args.answer.now

pub returns-clause-host_theorems : goal.returns-clause-host_theorems
returns-clause-host_theorems c = host-theorems c.args.limits.now c.args.script.now c.args.records.now c.args.answer.now
