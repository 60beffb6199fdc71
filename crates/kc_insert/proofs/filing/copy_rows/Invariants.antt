use Rattle.std.proofs.Common.{◌≡◌, ◌≢◌, false, take}
use Rattle.std.specs.List.{All}
use Rattle.kc_graph.specs.Numbers.{has_number}
use Rattle.kc_graph.specs.Shape.{neighbours_of}
use Rattle.kc_levels.specs.declared.moves.Move.{Move}
use Rattle.kc_insert.specs.private.Filed.{AreCopied}
use Rattle.kc_insert.proofs.filing.copy_rows.Given as goal

abbrev pub invariant-loop-m : goal.invariant-loop-m
invariant-loop-m l = AreCopied l.fresh.counts.now (λ u. All (λ (m : Move). (u ≢ m.vertex) × (has_number u (neighbours_of m.vertex l.fresh.graph.now.edges) ≡ false)) (take l.m-index l.moves)) l.initial.ranges l.ranges
