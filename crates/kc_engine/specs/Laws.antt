-- Laws of the definitions; each is the contract of a function in `laws`.
use Rattle.std.specs.Prelude.{ℕ, ◌≡◌, ◌≤◌, ◌<◌, ◌+◌, None, List, ◌++◌, length, get_or, map, All}
use Rattle.kc_graph.specs.declared.cleaning.Cleaned.{Cleaned}
use Rattle.kc_graph.specs.declared.limits.TheConstants.{MAX_EDGES}
use Rattle.kc_levels.specs.declared.profile.Profile.{Profile}
use Rattle.kc_levels.specs.LevelList.{MeetsBoth}
use Rattle.kc_history.specs.declared.limits.TheConstants.{MAX_PHASE}
use Rattle.kc_history.specs.declared.entries.Entry.{Entry}
use Rattle.kc_history.specs.Points as points
use Rattle.kc_groups.specs.declared.plans.PhasePlan.{PhasePlan}
use Rattle.kc_groups.specs.Phases.{LeadOn}
use Rattle.kc_groups.specs.WellFormed.{IsWellFormed}
use Rattle.kc_engine.specs.States.{State, start, IsSound}
use Rattle.kc_engine.specs.Batches.{IsCleaning, refusal_of, IsAfterBatch, IsAfterPhases}
use Rattle.kc_groups.specs.Entries.{entries_in}

-- the first state is sound
abbrev pub StartIsSound : Type 0
StartIsSound = (p : Profile) (n before limit : ℕ) → before ≤ MAX_PHASE → IsSound limit (start p n before)

-- after each batch that isn't refused there is exactly one state
abbrev pub BatchHasOneState : Type 0
BatchHasOneState =
    (limit : ℕ) (s : State) (c : Cleaned) → IsSound limit s → IsCleaning s.graph c →
    (t : State) × (IsAfterBatch s c t × ((u : State) → IsAfterBatch s c u → u ≡ t))

-- the state after a batch that isn't refused is sound if the one before it is
abbrev pub BatchKeepsSound : Type 0
BatchKeepsSound =
    (limit : ℕ) (s t : State) (c : Cleaned) → limit ≤ MAX_EDGES → IsSound limit s → IsCleaning s.graph c → refusal_of limit s c ≡ None →
    IsAfterBatch s c t → IsSound limit t

-- both invariants hold after a batch if they held before it
abbrev pub BatchKeepsBoth : Type 0
BatchKeepsBoth =
    (limit : ℕ) (s t : State) (c : Cleaned) → IsSound limit s → IsCleaning s.graph c → IsAfterBatch s c t →
    MeetsBoth t.profile t.graph t.levels

-- each batch has exactly one list of phases
abbrev pub PhasesAreOne : Type 0
PhasesAreOne =
    (limit : ℕ) (s : State) (c : Cleaned) → IsSound limit s → IsCleaning s.graph c →
    (plans : List PhasePlan) × (((t : State) × IsAfterPhases s c t plans) × ((u : State) (others : List PhasePlan) → IsAfterPhases s c u others → others ≡ plans))

-- the phases are numbered on from those before the batch, and its plan has all of them
pub record PhasesAreNumberedOn : Type 0 where
  pub count : (s t : State) (c : Cleaned) (plans : List PhasePlan) → IsAfterPhases s c t plans → s.phases + length plans ≡ t.phases
  pub number : (s t : State) (c : Cleaned) (plans : List PhasePlan) (i : ℕ) → IsAfterPhases s c t plans → i < length plans → get_or (map (λ (p : PhasePlan). p.quiet.phase) plans) i 0 ≡ s.phases + i + 1

-- the phases are well formed
abbrev pub PhasesAreWellFormed : Type 0
PhasesAreWellFormed =
    (s t : State) (c : Cleaned) (plans : List PhasePlan) → IsAfterPhases s c t plans → All (IsWellFormed s.graph.vertices) plans

-- the entries of the phases, one after another, lead from the graph and levels before the batch to those after it
pub record PhasesLeadOver : Type 0 where
  pub graph : (limit : ℕ) (s t : State) (c : Cleaned) (plans : List PhasePlan) → IsSound limit s → IsCleaning s.graph c → IsAfterPhases s c t plans → points.graph_after s.graph (entries_in plans) ≡ t.graph
  pub levels : (limit : ℕ) (s t : State) (c : Cleaned) (plans : List PhasePlan) → IsSound limit s → IsCleaning s.graph c → IsAfterPhases s c t plans → points.levels_after s.levels (entries_in plans) ≡ t.levels

-- a history of n vertices that ends at the state s
pub record IsHistoryOf (n : ℕ) (history : List Entry) (s : State) : Type 0 where
  pub graph : points.graph_at n history (length history) ≡ s.graph
  pub levels : points.levels_at n history (length history) ≡ s.levels

-- after a history that ends at the state before the batch, the phases lead to the state after it
abbrev pub PhasesLeadOn : Type 0
PhasesLeadOn =
    (limit n : ℕ) (history : List Entry) (s t : State) (c : Cleaned) (plans : List PhasePlan) → IsSound limit s → IsCleaning s.graph c → IsAfterPhases s c t plans →
    IsHistoryOf n history s → IsHistoryOf n (history ++ entries_in plans) t

-- the phases of the batch lead, one after another, from the graph and levels before it to those after it
abbrev pub PhasesLeadOneByOne : Type 0
PhasesLeadOneByOne =
    (limit : ℕ) (s t : State) (c : Cleaned) (plans : List PhasePlan) → IsSound limit s → IsCleaning s.graph c → IsAfterPhases s c t plans →
    LeadOn s.profile s.graph s.levels plans t.graph t.levels
