use Rattle.std.proofs.Common.{◌≢◌, take}
use Rattle.std.specs.List.{All}
use Rattle.kc_graph.specs.Shape.{Pair}
use Rattle.kc_insert.specs.private.Filed.{HaveCounted}
use Rattle.kc_insert.proofs.filing.file_each_end.Given as goal

abbrev pub invariant-loop-e : goal.invariant-loop-e
invariant-loop-e l = HaveCounted l.fresh.profile l.fresh.vertices l.fresh.levels l.fresh.counts (λ v. All (λ (e : Pair). (v ≢ e.0) × (v ≢ e.1)) (take l.e-index l.edges)) l.initial.ranges l.ranges
