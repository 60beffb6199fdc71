-- States: the state after each batch, and the facts that hold of each state.
use Rattle.std.specs.Prelude.{ℕ, ◌≤◌, List, [], length, replicate}
use Rattle.kc_graph.specs.Shape.{GraphShape, IsGraph}
use Rattle.kc_levels.specs.declared.profile.Profile.{Profile}
use Rattle.kc_levels.specs.LevelList.{MeetsBoth, IsCapped}
use Rattle.kc_history.specs.declared.limits.TheConstants.{MAX_PHASE}

-- a graph, a level for each vertex by the thresholds of a profile, and the number of phases so far
pub record State : Type 0 where
  pub profile : Profile
  pub graph : GraphShape
  pub levels : List ℕ
  pub phases : ℕ

-- the state before the first batch: no edges among n vertices, all levels 0, and `before` phases
abbrev pub start : Profile → ℕ → ℕ → State
start p n before = record { profile = p; graph = record { vertices = n; edges = [] }; levels = replicate n 0; phases = before }

-- the facts that hold of each state of a run with this edge limit
pub record IsSound (limit : ℕ) (s : State) : Type 0 where
  pub graph : IsGraph s.graph
  pub both : MeetsBoth s.profile s.graph s.levels
  pub capped : IsCapped s.profile s.graph.vertices s.levels
  pub few_edges : length s.graph.edges ≤ limit
  pub few_phases : s.phases ≤ MAX_PHASE
