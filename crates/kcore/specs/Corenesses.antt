-- The coreness of each vertex of a graph, as a list.
use Rattle.std.specs.Prelude.{ℕ, ◌≡◌, ◌<◌, List, length, get_or}
use Rattle.kc_graph.specs.Shape.{GraphShape}
use Rattle.kc_bound.specs.Cores.{IsCoreness}

-- the corenesses of the vertices of a graph, from vertex 0 on
pub record AreCorenesses (g : GraphShape) (corenesses : List ℕ) : Type 0 where
  pub sized : length corenesses ≡ g.vertices
  pub each : (v : ℕ) → v < g.vertices → IsCoreness g v (get_or corenesses v 0)
