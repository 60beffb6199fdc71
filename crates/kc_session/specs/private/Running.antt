-- The result of batches, and the text written for them, after they were run or a fault came.
use Rattle.std.specs.Prelude.{ℕ, ◌≡◌, ◌+◌, ◌-◌, ◌^◌, ◌<◌, ◌≤◌, true, false, Bool, List, Option, Some, None, Result, Ok, Err, OnOk}
use Rattle.kc_text.specs.Writing.{IsPrefix}
use Rattle.kc_text.specs.Reading.{Reading, budget}
use Rattle.kc_graph.specs.declared.limits.TheConstants.{MAX_ITEMS}
use Rattle.kc_levels.specs.declared.profile.Profile.{Profile}
use Rattle.kc_batch.specs.Ahead.{batches_ahead, ahead_budget}
use Rattle.kc_batch.specs.Batches.{batches_left, IsEnd}
use Rattle.kc_batch.specs.BatchInputs.{rules_of}
use Rattle.kc_batch.specs.HeaderShape.{HeaderShape}
use Rattle.kc_batch.specs.declared.ahead.Ahead.{Ahead}
use Rattle.kc_batch.specs.declared.rules.Rules.{Rules}
use Rattle.kc_batch.specs.declared.ask.Ask.{Ask}
use Rattle.std.specs.Io.KnownBytes.{append_known}
use Rattle.kc_batch.specs.declared.batch.Next.{Next}
use Rattle.kc_batch.specs.declared.batch.Next.TheVariants.{Refused}
use Rattle.kc_text.specs.declared.reason.Reason.TheVariants.{InputLimit}
use Rattle.kc_history.specs.declared.entries.Entry.{Entry}
use Rattle.kc_groups.specs.Entries.{entries_in}
use Rattle.kc_engine.specs.States.{State}
use Rattle.kc_session.specs.declared.counts.Counts.{Counts}
use Rattle.kc_session.specs.declared.ended.Ended.{Ended}
use Rattle.kc_session.specs.declared.fault.SessionFault.{SessionFault}
use Rattle.kc_session.specs.declared.report.Report.{Report}
use Rattle.kc_session.specs.declared.watched.Watched.{Watched}
use Rattle.kc_session.specs.private.Audiences.{longer, shown_to, store_of, IsAbreast}
use Rattle.kc_session.specs.private.Counts.{counts_of, counted}
use Rattle.kc_session.specs.private.States.{IsBatchFor}
use Rattle.kc_session.specs.RunText.{step_text, batch_lines}
use Rattle.kc_session.specs.SessionText.{body_text, WritesSession}
use Rattle.kc_session.specs.States.{Step, IsStep, AreSteps, last_state, history_of, IsOpen}
use Rattle.kc_session.specs.Running.{WroteSomeBatches}

-- a batch was applied to the state s, which became t, and was counted
--
-- Its text was written, and the history h, if there is one, grew to i by its entries.
pub record RanStep (report : Report) (b : Next) (s t : State) (before now : Option (List ℕ)) (old new : Counts) (h i : Option (List Entry)) : Type 0 where
  pub step : Step
  pub is_step : IsStep s b step
  pub last : t ≡ step.state
  pub taken : now ≡ append_known before (step_text report (old.batches + 1) s b step.phases)
  pub counts : new ≡ counted s b step old
  pub history : i ≡ longer h (entries_in step.phases)

-- a prefix of the text of the batch was written
pub record WroteSome (report : Report) (number : ℕ) (b : Next) (s : State) (before now : Option (List ℕ)) : Type 0 where
  pub step : Step
  pub is_step : IsStep s b step
  pub prefix : IsPrefix before now (step_text report number s b step.phases)

-- with Ok the batch was applied, and otherwise a prefix of its text was written
abbrev pub RunsStep : Report → Next → State → State → Option (List ℕ) → Option (List ℕ) → Counts → Option (List Entry) → Option (List Entry) → Result Counts SessionFault → Type 0
RunsStep report b s t before now old h i (Ok new) = RanStep report b s t before now old new h i
RunsStep report b s t before now old h i (Err _) = WroteSome report (old.batches + 1) b s before now

-- what a batch did to an engine beside its audience (`RunsStep`)
abbrev pub RunsOne : Report → Next → Watched → Watched → Option (List ℕ) → Option (List ℕ) → Counts → Result Counts SessionFault → Type 0
RunsOne report b w x before now old result = RunsStep report b w.engine.state x.engine.state before now old (shown_to w.audience) (shown_to x.audience) result

-- an engine beside its audience may take this batch, which can be counted after these counts
pub record MayRun (w : Watched) (next : Next) (counts : Counts) : Type 0 where
  pub abreast : IsAbreast w.audience w.engine.state
  pub open_for : IsOpen w.engine
  pub batch : IsBatchFor w.engine.state.graph.vertices next
  pub some : IsEnd next → ⊥
  pub few : counts.batches < 2 ^ 32 - 1
  pub fewer : counts.refused ≤ counts.batches

-- a batch was run by an engine beside its audience (`RunsOne`): with Ok the engine may take more of them
--
-- The audience looks at the same store as before.
pub record IsRun (report : Report) (b : Next) (w x : Watched) (before now : Option (List ℕ)) (old : Counts) (result : Result Counts SessionFault) : Type 0 where
  pub step : RunsOne report b w x before now old result
  pub store : store_of x.audience ≡ store_of w.audience
  pub abreast : OnOk result (IsAbreast x.audience x.engine.state)
  pub open_for : OnOk result (IsOpen x.engine)

-- no batch follows one that is refused for the input limit
abbrev pub is_last_batch : Next → Bool
is_last_batch (Refused line InputLimit) = true
is_last_batch _ = false

-- batches were applied to the state s, which became t, and were counted
--
-- Their text was written, and the history h, if there is one, grew to i by their entries.
pub record RanBatches (report : Report) (s t : State) (batches : List Next) (before now : Option (List ℕ)) (h i : Option (List Entry)) (counts : Counts) : Type 0 where
  pub steps : List Step
  pub are_steps : AreSteps s batches steps
  pub last : last_state s steps ≡ t
  pub taken : now ≡ append_known before (batch_lines report 1 s batches steps)
  pub counts_are : counts ≡ counts_of s batches steps
  pub history : i ≡ longer h (history_of steps)

-- with Ok the batches were applied, and otherwise a prefix of their text was written, if the source tells the batches
abbrev pub RunsBatches : Report → State → State → Option (List Next) → Option (List ℕ) → Option (List ℕ) → Option (List Entry) → Option (List Entry) → Result Counts SessionFault → Type 0
RunsBatches report s t None before now h i result = Unit {0}
RunsBatches report s t (Some batches) before now h i (Ok counts) = RanBatches report s t batches before now h i counts
RunsBatches report s t (Some batches) before now h i (Err _) = WroteSomeBatches report s batches before now

-- what batches did to an engine beside its audience (`RunsBatches`)
abbrev pub RunsAll : Report → Watched → Watched → Option (List Next) → Option (List ℕ) → Option (List ℕ) → Result Counts SessionFault → Type 0
RunsAll report w x batches before now result = RunsBatches report w.engine.state x.engine.state batches before now (shown_to w.audience) (shown_to x.audience) result

-- the engine may take batches of a graph of n vertices, and its audience is up to date with it
pub record IsReadyFor (n : ℕ) (w : Watched) : Type 0 where
  pub abreast : IsAbreast w.audience w.engine.state
  pub open_for : IsOpen w.engine
  pub vertices : w.engine.state.graph.vertices ≡ n

-- batches were run by an engine beside its audience (`RunsAll`): with Ok the engine may take more of them
--
-- The audience looks at the same store as before, and the profile is the same.
pub record AreRun (report : Report) (w x : Watched) (batches : Option (List Next)) (before now : Option (List ℕ)) (result : Result Counts SessionFault) : Type 0 where
  pub text : RunsAll report w x batches before now result
  pub store : store_of x.audience ≡ store_of w.audience
  pub ready : OnOk result (IsReadyFor w.engine.state.graph.vertices x)
  pub profile : OnOk result (x.engine.state.profile ≡ w.engine.state.profile)

-- the rules of batches for a graph of n vertices
abbrev pub rules_for : ℕ → Profile → Rules
rules_for n profile = record { n = n; profile = profile; item_limit = MAX_ITEMS }

-- the batches of the lines that a reader has still to give, for a graph of n vertices
abbrev pub batches_for : ℕ → Profile → Reading → Option (List ℕ) → Option (List Next)
batches_for n profile r left = batches_left (rules_for n profile) r left

-- the batches that a reader had still to give are those with the one read ahead, for which some of the budget was taken
pub record IsReadAhead (rules : Rules) (old new : Reading) (a : Ahead) : Type 0 where
  pub same_rules : a.rules ≡ rules
  pub batches : (left : Option (List ℕ)) → batches_left rules old left ≡ batches_ahead a new left
  pub takes : ahead_budget a new ≤ budget old

-- the header of a graph of n vertices with these asks
abbrev pub header_for : ℕ → Profile → List Ask → HeaderShape
header_for n profile asks = record { profile = profile; n = n; asks = asks }

-- the text of a session after its head was written (`WritesSession`)
abbrev pub WritesBody : HeaderShape → Reading → Option (List ℕ) → Option (List ℕ) → Option (List ℕ) → Result Ended SessionFault → Type 0
WritesBody header r left before now result = WritesSession body_text header (batches_left (rules_of header MAX_ITEMS) r left) before now result
