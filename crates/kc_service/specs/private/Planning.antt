-- The result of a cleaned batch that is planned and shown.
use Rattle.std.specs.Prelude.{◌≡◌, false, Result, Ok, Err}
use Rattle.kc_graph.specs.declared.cleaning.Cleaned.{Cleaned}
use Rattle.kc_store.specs.declared.roles.WriterState.{WriterState}
use Rattle.kc_engine.specs.declared.plans.BatchPlan.{BatchPlan}
use Rattle.kc_engine.specs.declared.faults.EngineFault.{EngineFault}
use Rattle.kc_engine.specs.Planning.{EngineView, IsPlanned, Answers}
use Rattle.kc_engine.specs.Showing.{AreShown}

-- the batch was planned, and its plan is shown
pub record IsShownPlan (e : EngineView) (w : WriterState) (c : Cleaned) (plan : BatchPlan) (f : EngineView) (x : WriterState) : Type 0 where
  -- the engine between the two
  pub between : EngineView
  pub planned : IsPlanned e c plan between
  pub engine : f ≡ record between { waits = false }
  pub shown : AreShown plan.phases w x

-- the results for a cleaned batch, for the engine and for the writer
abbrev pub PlansAndShows : EngineView → WriterState → Cleaned → Result BatchPlan EngineFault → EngineView → WriterState → Type 0
PlansAndShows e w c (Ok plan) f x = IsShownPlan e w c plan f x
PlansAndShows e w c (Err fault) f x = Answers e c (Err fault) f × (x ≡ w)
