-- The facts that a service keeps.
use Rattle.std.specs.Prelude.{◌≡◌, Bool, false}
use Rattle.kc_levels.specs.Thresholds.{Scale}
use Rattle.kc_store.specs.Seats.{StoreShape, WriterShape}
use Rattle.kc_engine.specs.Planning.{EngineView}
use Rattle.kc_engine.specs.Showing.{IsAbreast}

-- the facts that a service keeps
--
-- The writer is the store's, the thresholds are the profile's, and no plan waits. Unless the engine has halted, the
-- store is for its vertices, and the writer's history leads to its state.
pub record IsKept (s : StoreShape) (t : Scale) (e : EngineView) (w : WriterShape) (halted : Bool) : Type 0 where
  pub table : w.table ≡ s.table
  pub profile : t.profile ≡ e.state.profile
  pub halted_is : halted ≡ e.halted
  pub shown : e.waits ≡ false
  pub vertices : e.halted ≡ false → e.state.graph.vertices ≡ s.vertices
  pub abreast : e.halted ≡ false → IsAbreast w.state e.state
