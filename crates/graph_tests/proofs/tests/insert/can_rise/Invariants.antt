use Rattle.std.proofs.Common.{ℕ, ◌≤◌, ◌<◌, get_or}
use Rattle.kc_levels.specs.LevelList.{MeetsUpper}
use Rattle.kc_levels.specs.Thresholds.{top_level}
use Rattle.graph_tests.proofs.tests.insert.can_rise.Given as goal

abbrev pub invariant-loop-v : goal.invariant-loop-v
invariant-loop-v l = (u : ℕ) → u < l.v → (get_or l.adj.levels u 0 ≤ top_level l.th.profile l.th.vertices) × MeetsUpper l.th.profile l.adj.graph l.adj.levels u
