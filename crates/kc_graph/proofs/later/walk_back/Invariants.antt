use Rattle.std.proofs.Common.{◌≤◌, drop, length}
use Rattle.kc_graph.specs.private.Later.{IsNetEffect}
use Rattle.kc_graph.proofs.later.walk_back.Given as goal

abbrev pub invariant-loop-place : goal.invariant-loop-place
invariant-loop-place l = record {
  within : l.place ≤ length l.items;
  comes : IsNetEffect l.graph.edges (drop l.place l.items) l.later;
}

abbrev pub decreases-loop-place : goal.decreases-loop-place
decreases-loop-place l = l.place
