-- What contracts see of an engine, and how a cleaned batch changes that.
use Rattle.std.specs.Prelude.{ℕ, ◌≡◌, ◌≤◌, Bool, true, false, Some, None, Result, Ok, Err}
use Rattle.kc_graph.specs.declared.cleaning.Cleaned.{Cleaned}
use Rattle.kc_graph.specs.declared.limits.TheConstants.{MAX_EDGES}
use Rattle.kc_levels.specs.Thresholds.{Scale}
use Rattle.kc_engine.specs.declared.shape.Shape.{Shape}
use Rattle.kc_engine.specs.declared.plans.BatchPlan.{BatchPlan}
use Rattle.kc_engine.specs.declared.work.PhaseWork.{PhaseWork}
use Rattle.kc_engine.specs.declared.faults.EngineFault.{EngineFault}
use Rattle.kc_engine.specs.declared.faults.EngineFault.TheVariants.{Halted, EdgeLimit, PhaseLimit, Memory}
use Rattle.kc_engine.specs.States.{State, start, IsSound}
use Rattle.kc_engine.specs.Readiness.{AreReady}
use Rattle.kc_engine.specs.Batches.{refusal_of, moves_through, IsAfterBatch, ArePhases}

-- what contracts see of an `Engine`; once it has halted, graph and levels of the state are unspecified
pub record EngineView : Type 0 where
  pub state : State
  -- the profile and the number of vertices of its thresholds
  pub scale : Scale
  pub workers : ℕ
  pub edge_limit : ℕ
  pub halted : Bool
  -- whether a plan waits to be shown
  pub waits : Bool

-- an engine of this shape before its first batch
abbrev pub opened : Shape → EngineView
opened shape = record { state = start shape.profile shape.n shape.phases_before; scale = record { profile = shape.profile; vertices = shape.n }; workers = shape.workers; edge_limit = shape.edge_limit; halted = false; waits = false }

-- what an engine keeps
--
-- It has a place for the marker of each worker, and no plan waits once it has halted. Unless it has halted, its
-- thresholds are for its graph, its state is sound, and a phase may begin.
pub record IsKept (places : ℕ) (work : PhaseWork) (e : EngineView) : Type 0 where
  pub some_workers : 1 ≤ e.workers
  pub few_workers : e.workers ≤ 64
  pub one_each : places ≡ e.workers
  pub limit : e.edge_limit ≤ MAX_EDGES
  pub running : e.waits ≡ true → e.halted ≡ false
  pub scale : e.halted ≡ false → e.scale.vertices ≡ e.state.graph.vertices
  pub sound : e.halted ≡ false → IsSound e.edge_limit e.state
  pub ready : e.halted ≡ false → AreReady e.state.profile (record { graph = e.state.graph; levels = e.state.levels }) work

-- the batch was accepted: f is the engine e after it, and the plan has its phases and waits to be shown
pub record IsPlanned (e : EngineView) (c : Cleaned) (plan : BatchPlan) (f : EngineView) : Type 0 where
  pub running : e.halted ≡ false
  pub accepted : refusal_of e.edge_limit e.state c ≡ None
  pub after : IsAfterBatch e.state c f.state
  pub phases : ArePhases e.state.phases e.state.graph c e.state.levels after.levels.between f.state.levels plan.phases
  pub moves : plan.moves ≡ moves_through e.state.graph.vertices e.state.levels after.levels.between f.state.levels
  pub rest : f ≡ record e { state = f.state; waits = true }

-- the batch was refused for this reason, and the engine is as before
pub record IsRefused (e : EngineView) (c : Cleaned) (fault : EngineFault) (f : EngineView) : Type 0 where
  pub running : e.halted ≡ false
  pub reason : refusal_of e.edge_limit e.state c ≡ Some fault
  pub same : f ≡ e

-- there was no memory for a batch that isn't refused, and the engine has halted
pub record IsCutOff (e : EngineView) (c : Cleaned) (f : EngineView) : Type 0 where
  pub running : e.halted ≡ false
  pub accepted : refusal_of e.edge_limit e.state c ≡ None
  pub halted : f.halted ≡ true
  pub rest : f ≡ record e { state = f.state; halted = true }
  pub profile : f.state.profile ≡ e.state.profile
  pub phases : f.state.phases ≡ e.state.phases

-- what `plan` returns for a batch with the cleaning c, and the engine before and after it
abbrev pub Answers : EngineView → Cleaned → Result BatchPlan EngineFault → EngineView → Type 0
Answers e c (Ok plan) f = IsPlanned e c plan f
Answers e c (Err Halted) f = (e.halted ≡ true) × (f ≡ e)
Answers e c (Err (EdgeLimit edges)) f = IsRefused e c (EdgeLimit edges) f
Answers e c (Err (PhaseLimit phase)) f = IsRefused e c (PhaseLimit phase) f
Answers e c (Err (Memory error)) f = IsCutOff e c f
