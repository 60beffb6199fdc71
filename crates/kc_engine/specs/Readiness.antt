-- The workspaces of an engine between two phases.
use Rattle.std.specs.Prelude.{◌≡◌}
use Rattle.kc_levels.specs.declared.profile.Profile.{Profile}
use Rattle.kc_adj.specs.LeveledGraph.{LeveledGraph}
use Rattle.kc_delete.specs.Working as deletion
use Rattle.kc_insert.specs.Working as insertion
use Rattle.kc_groups.specs.Gathering.{clean}
use Rattle.kc_engine.specs.declared.work.PhaseWork.{PhaseWork}

-- phases of this graph may begin, at its levels and with the thresholds of a profile
pub record AreReady (p : Profile) (a : LeveledGraph) (work : PhaseWork) : Type 0 where
  pub deletion : deletion.IsReady a work.deletion
  pub insertion : insertion.IsReady p a work.insertion
  pub groups : work.groups ≡ clean a.graph.vertices
