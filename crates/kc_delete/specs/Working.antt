-- The workspace of deletion phases.
use Rattle.std.specs.Prelude.{ℕ, ◌≡◌, Bool, false, [], List, length, replicate}
use Rattle.kc_levels.specs.declared.moves.Move.{Move}
use Rattle.kc_levels.specs.Moved.{moves_between}
use Rattle.kc_adj.specs.LeveledGraph.{LeveledGraph}

-- what contracts see of a `DeletionWork`: the levels before a phase, whether each vertex waits, and the fallen vertices
pub record Working : Type 0 where
  pub before : List ℕ
  pub waits : List Bool
  pub fallen : List ℕ

-- the state between phases: the levels are those of the graph, no vertex waits, and none is noted
pub record IsReady (a : LeveledGraph) (w : Working) : Type 0 where
  pub before : w.before ≡ a.levels
  pub none_waits : w.waits ≡ replicate a.graph.vertices false
  pub none_fallen : w.fallen ≡ []

-- if the workspace `old` is ready for a graph, `new` is ready for the graph after these moves
--
-- The second graph has as many vertices as the first, and the moves lead from the levels of the first to its own.
abbrev pub Follows : List Move → Working → Working → Type 0
Follows moves old new =
    (a b : LeveledGraph) → IsReady a old → length a.levels ≡ a.graph.vertices → length b.levels ≡ b.graph.vertices → b.graph.vertices ≡ a.graph.vertices →
    moves ≡ moves_between a.graph.vertices a.levels b.levels → IsReady b new
