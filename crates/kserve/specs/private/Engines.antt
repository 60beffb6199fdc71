-- What is true of the engine between two batches.
use Rattle.std.specs.Prelude.{ℕ, ◌≡◌, ◌+◌, ◌≤◌, false, length}
use Rattle.kc_graph.specs.declared.limits.TheConstants.{MAX_EDGES, MAX_ITEMS}
use Rattle.kc_history.specs.declared.limits.TheConstants.{MAX_PHASE}
use Rattle.kc_engine.specs.States.{State, IsSound}
use Rattle.kc_engine.specs.Planning.{EngineView}
use Rattle.kserve.specs.Batches.{start}

-- it takes batches: it hasn't halted, no plan waits to be shown, its edge limit is the program's, and its state is
-- sound
pub record IsOpen (e : EngineView) : Type 0 where
  pub running : e.halted ≡ false
  pub none_waits : e.waits ≡ false
  pub limit : e.edge_limit ≡ MAX_EDGES
  pub sound : IsSound MAX_EDGES e.state

-- it is the engine before the first batch of a graph of n vertices
pub record IsFresh (n : ℕ) (e : EngineView) : Type 0 where
  pub open_for : IsOpen e
  pub state : e.state ≡ start n

-- there is room for a batch of `MAX_ITEMS` items and its two phases, so it isn't refused
pub record HasRoom (s : State) : Type 0 where
  pub edges : length s.graph.edges + MAX_ITEMS ≤ MAX_EDGES
  pub phases : s.phases + 2 ≤ MAX_PHASE

-- it may take a batch of a graph of n vertices
pub record IsReady (n : ℕ) (e : EngineView) : Type 0 where
  pub open_for : IsOpen e
  pub vertices : e.state.graph.vertices ≡ n
  pub room : HasRoom e.state
