-- What is put and the cases to come are all cases.
use Rattle.std.proofs.Common.{◌≡◌, ◌≤◌, ◌-◌, length}
use Rattle.std.specs.List.{range_with_len, flat_map}
use Rattle.puts.proofs.Laws.{Going}
use Rattle.listing_cases.specs.Cases.{casePlace, caseOf, countFor, casesText}
use Rattle.listing_cases.proofs.put_cases.Given as goal

abbrev pub invariant-loop-at : goal.invariant-loop-at
invariant-loop-at l =
    record {
      within : l.at ≤ length l.list;
      fewer : l.earlier ≤ l.at;
      place : l.at ≡ casePlace l.list l.earlier;
      going : Going l.fn.text l.text (flat_map (caseOf l.list) (range_with_len l.earlier (countFor (length l.list - l.at) l.list l.at))) (casesText l.list);
    }

abbrev pub decreases-loop-at : goal.decreases-loop-at
decreases-loop-at l = length l.list - l.at
