-- What insertion phases work with.
use Rattle.std.specs.Prelude.{ℕ, ◌≡◌, [], List, length}
use Rattle.kc_graph.specs.Shape.{Pair, without_edges}
use Rattle.kc_levels.specs.Moved.{moves_between}
use Rattle.kc_levels.specs.declared.moves.Move.{Move}
use Rattle.kc_levels.specs.declared.profile.Profile.{Profile}
use Rattle.kc_adj.specs.LeveledGraph.{LeveledGraph, IsCounted}
use Rattle.kc_insert.specs.Ranges.{AreQuiet, counts_of, Cut, waits}

-- what contracts see of an `InsertionWork`: the levels, and the ranges of the vertices
pub record Working : Type 0 where
  pub levels : List ℕ
  pub ranges : Cut

-- between phases: the levels and the counts are those of the graph, and no vertex rises, waits or is to be met
pub record IsReady (p : Profile) (a : LeveledGraph) (w : Working) : Type 0 where
  pub levels : w.levels ≡ a.levels
  pub counted : IsCounted a.graph a.levels 0 (counts_of w.ranges)
  pub quiet : AreQuiet p a.graph w.ranges
  pub none_waiting : (k : ℕ) → waits w.ranges k ≡ []

-- It is ready for the graph now if it was ready for a graph before. Since then these edges were taken out, and the
-- moves lead to the levels now.
abbrev pub StaysReady : LeveledGraph → List Pair → List Move → Working → Working → Type 0
StaysReady now removed moves old new =
    (p : Profile) (a : LeveledGraph) → IsReady p a old → length a.levels ≡ a.graph.vertices → now.graph ≡ without_edges a.graph removed → moves ≡ moves_between a.graph.vertices a.levels now.levels → IsReady p now new
