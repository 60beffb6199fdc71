use Rattle.std.proofs.Common.{ℕ, ◌≡◌, ◌≤◌, List, ◌++◌, length}
use Rattle.kc_batch.specs.private.ItemLines.{AddLines}
use Rattle.kc_batch.proofs.adding.add_lines.Given as goal

abbrev pub invariant-loop-line : goal.invariant-loop-line
invariant-loop-line l = record {
  gone : List ℕ;
  bytes_are : l.fn.bytes ≡ gone ++ l.rest;
  few : length l.items ≤ l.rules.item_limit;
  adds : AddLines l.rules l.limit gone l.fn.items l.items;
}

abbrev pub decreases-loop-line : goal.decreases-loop-line
decreases-loop-line l = length l.rest
