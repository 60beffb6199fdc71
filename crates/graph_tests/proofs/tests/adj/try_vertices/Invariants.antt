use Rattle.std.proofs.Common.{ℕ, ◌≡◌, ◌<◌, true, get_or}
use Rattle.kc_graph.specs.Numbers.{has_number}
use Rattle.kc_levels.specs.Following.{AreDistinct}
use Rattle.graph_tests.proofs.tests.adj.try_vertices.Given as goal

abbrev pub invariant-loop-v : goal.invariant-loop-v
invariant-loop-v l =
    ((u : ℕ) → has_number u l.vertices.items ≡ true → u < l.v)
    × ((u : ℕ) → u < l.v → 0 < get_or l.levels u 0 → has_number u l.vertices.items ≡ true)
    × AreDistinct l.vertices.items
