-- The result of all batches of an input without readers.
use Rattle.std.specs.Prelude.{ℕ, ◌≡◌, false, List, Option, Some, None, Result, Ok, Err}
use Rattle.std.specs.Io.KnownBytes.{append_known}
use Rattle.kc_graph.specs.declared.limits.TheConstants.{MAX_EDGES}
use Rattle.kc_batch.specs.declared.batch.Next.{Next}
use Rattle.kc_batch.specs.HeaderShape.{HeaderShape}
use Rattle.kc_engine.specs.States.{State, IsSound}
use Rattle.kc_engine.specs.Planning.{EngineView}
use Rattle.kc_session.specs.declared.fault.SessionFault.{SessionFault}
use Rattle.kc_session.specs.declared.report.Report.TheVariants.{Notes}
use Rattle.kc_session.specs.declared.settling.Settled.{Settled}
use Rattle.kc_session.specs.Counts.{refused_in}
use Rattle.kc_session.specs.RunText.{batch_lines}
use Rattle.kc_session.specs.Running.{WroteSomeBatches}
use Rattle.kc_session.specs.States.{Step, start, AreSteps, last_state}

-- the engine is for the vertices and the profile of this header
--
-- It hasn't halted, no plan waits to be shown, its levels are at most the top level, and both invariants hold.
pub record IsSettled (header : HeaderShape) (e : EngineView) : Type 0 where
  pub running : e.halted ≡ false
  pub none_waits : e.waits ≡ false
  pub profile : e.state.profile ≡ header.profile
  pub vertices : e.state.graph.vertices ≡ header.n
  pub sound : IsSound MAX_EDGES e.state

-- the batches were applied one after another, and led to the state t
--
-- Notes of the refused ones were written, and `refused` is their number.
pub record HasSettled (header : HeaderShape) (batches : List Next) (before now : Option (List ℕ)) (t : State) (refused : ℕ) : Type 0 where
  pub steps : List Step
  pub are_steps : AreSteps (start header.profile header.n) batches steps
  pub last : last_state (start header.profile header.n) steps ≡ t
  pub taken : now ≡ append_known before (batch_lines Notes 1 (start header.profile header.n) batches steps)
  pub count : refused ≡ refused_in (start header.profile header.n) batches steps

-- with Ok the batches were applied, and otherwise a prefix of the notes was written, if the source tells the batches
abbrev pub Settles : HeaderShape → Option (List Next) → Option (List ℕ) → Option (List ℕ) → Result Settled SessionFault → Type 0
Settles header None before now result = Unit {0}
Settles header (Some batches) before now (Ok settled) = HasSettled header batches before now settled.engine.state settled.refused
Settles header (Some batches) before now (Err _) = WroteSomeBatches Notes (start header.profile header.n) batches before now
