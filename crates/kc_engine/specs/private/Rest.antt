-- A graph with its workspaces between two phases.
use Rattle.kc_levels.specs.Thresholds.{Scale}
use Rattle.kc_levels.specs.LevelList.{IsWithin}
use Rattle.kc_adj.specs.LeveledGraph.{LeveledGraph}
use Rattle.kc_engine.specs.declared.work.PhaseWork.{PhaseWork}
use Rattle.kc_engine.specs.Readiness.{AreReady}

-- no phase runs: the thresholds are for the graph, no level is above their top, and the workspaces are ready for it
pub record IsAtRest (th : Scale) (a : LeveledGraph) (work : PhaseWork) : Type 0 where
  pub within : IsWithin th a.graph a.levels
  pub ready : AreReady th.profile a work
