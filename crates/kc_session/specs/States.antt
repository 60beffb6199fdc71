-- The states of an input's batches, one after another.
use Rattle.std.specs.Prelude.{ℕ, ◌≡◌, Bool, true, false, List, [], ◌∷◌, ◌++◌, Option, Some, None, is_some}
use Rattle.kc_graph.specs.declared.cleaning.Cleaned.{Cleaned}
use Rattle.kc_graph.specs.declared.limits.TheConstants.{MAX_EDGES}
use Rattle.kc_graph.specs.Cleaning.{cleaned}
use Rattle.kc_levels.specs.declared.profile.Profile.{Profile}
use Rattle.kc_text.specs.declared.reason.Reason.{Reason}
use Rattle.kc_text.specs.declared.reason.Reason.TheVariants as reason
use Rattle.kc_batch.specs.declared.batch.Next.{Next}
use Rattle.kc_batch.specs.declared.batch.Next.TheVariants.{Items, Refused, End}
use Rattle.kc_engine.specs.declared.faults.EngineFault.{EngineFault}
use Rattle.kc_engine.specs.declared.faults.EngineFault.TheVariants.{EdgeLimit}
use Rattle.kc_engine.specs.States.{State, IsSound}
use Rattle.kc_engine.specs.States as states
use Rattle.kc_groups.specs.declared.plans.PhasePlan.{PhasePlan}
use Rattle.kc_history.specs.declared.entries.Entry.{Entry}
use Rattle.kc_groups.specs.Entries.{entries_in}
use Rattle.kc_engine.specs.Batches.{IsAfterPhases}
use Rattle.kc_engine.specs.Batches as limits
use Rattle.kc_engine.specs.Planning.{EngineView}

-- the state before the first batch: no edges, all levels 0, no phases
abbrev pub start : Profile → ℕ → State
start p n = states.start p n 0

-- the reason for which a batch without a fault is refused after its cleaning c, if it is
--
-- The graph would have more than 16,777,216 edges, or else the batch's last phase would have a number above 16,777,215.
abbrev pub refusal_of : State → Cleaned → Option EngineFault
refusal_of s c = limits.refusal_of MAX_EDGES s c

-- the word for the reason; there are no other refusals than these two
abbrev pub reason_of : EngineFault → Reason
reason_of (EdgeLimit edges) = reason.EdgeLimit
reason_of _ = reason.PhaseLimit

-- the result of a batch: the state after it, and its phases
pub record Step : Type 0 where
  pub state : State
  pub phases : List PhasePlan

-- the step that changes nothing
abbrev pub stay : State → Step
stay s = record { state = s; phases = [] }

-- a batch that is refused changes nothing
abbrev pub IsAfterCleaned : State → Cleaned → Option EngineFault → Step → Type 0
IsAfterCleaned s c (Some fault) t = t ≡ stay s
IsAfterCleaned s c None t = IsAfterPhases s c t.state t.phases

-- t is the step of this batch in the state s
abbrev pub IsStep : State → Next → Step → Type 0
IsStep s (Items batch) t = let c = cleaned s.graph batch.items in IsAfterCleaned s c (refusal_of s c) t
IsStep s (Refused line reason) t = t ≡ stay s
IsStep s End t = t ≡ stay s

-- these are the steps of the batches
abbrev pub AreSteps : State → List Next → List Step → Type 0
AreSteps s [] [] = Unit {0}
AreSteps s [] (t ∷ ts) = ⊥
AreSteps s (b ∷ bs) [] = ⊥
AreSteps s (b ∷ bs) (t ∷ ts) = IsStep s b t × AreSteps t.state bs ts

-- the state after all steps
abbrev pub last_state : State → List Step → State
last_state s [] = s
last_state s (t ∷ ts) = last_state t.state ts

-- the history of these steps: the entries of all their phases, in the order in which they take effect
abbrev pub history_of : List Step → List Entry
history_of [] = []
history_of (t ∷ ts) = entries_in t.phases ++ history_of ts

-- whether a batch is refused in this state
abbrev pub is_refused : State → Next → Bool
is_refused s (Items batch) = is_some (refusal_of s (cleaned s.graph batch.items))
is_refused s (Refused line reason) = true
is_refused s End = false

-- the engine takes batches
--
-- It hasn't halted, no plan waits to be shown, its edge limit is the program's, and its state is sound.
pub record IsOpen (e : EngineView) : Type 0 where
  pub running : e.halted ≡ false
  pub none_waits : e.waits ≡ false
  pub limit : e.edge_limit ≡ MAX_EDGES
  pub sound : IsSound MAX_EDGES e.state
