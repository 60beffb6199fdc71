use Rattle.std.proofs.Common.{ℕ, ◌≤◌, ◌<◌, get_or}
use Rattle.kc_levels.specs.LevelList.{MeetsLower}
use Rattle.kc_levels.specs.Thresholds.{top_level}
use Rattle.graph_tests.proofs.tests.delete.can_fall.Given as goal

abbrev pub invariant-loop-v : goal.invariant-loop-v
invariant-loop-v l = (u : ℕ) → u < l.v → (get_or l.adj.levels u 0 ≤ top_level l.th.profile l.th.vertices) × MeetsLower l.th.profile l.adj.graph l.adj.levels u
