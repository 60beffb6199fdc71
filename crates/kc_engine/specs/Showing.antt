-- When the phases of a plan can be shown in a store, and laws of showing; each is the contract of a function in `laws`.
use Rattle.std.specs.Prelude.{ℕ, ◌≡◌, ◌+◌, List, [], ◌∷◌, ◌++◌, length, All}
use Rattle.kc_graph.specs.declared.cleaning.Cleaned.{Cleaned}
use Rattle.kc_history.specs.Points as points
use Rattle.kc_groups.specs.declared.plans.PhasePlan.{PhasePlan}
use Rattle.kc_history.specs.declared.entries.Entry.{Entry}
use Rattle.kc_groups.specs.Entries.{entries_of, entries_in}
use Rattle.kc_groups.specs.WellFormed.{IsWellFormed}
use Rattle.kc_store.specs.declared.roles.WriterState.{WriterState}
use Rattle.kc_store.specs.Showing.{AreCurrent, IsIdle}
use Rattle.kc_engine.specs.States.{State, IsSound}
use Rattle.kc_engine.specs.Batches.{IsCleaning, IsAfterPhases}
use Rattle.kc_engine.specs.Laws.{IsHistoryOf}

-- the plan is that of the next phase after `phases` phases of a history over n vertices
--
-- The plan is well formed, and the old level of each move is its vertex's level at the end of the history.
pub record IsNext (n phases : ℕ) (history : List Entry) (plan : PhasePlan) : Type 0 where
  pub well_formed : IsWellFormed n plan
  pub number : plan.quiet.phase ≡ phases + 1
  pub old_levels : All (AreCurrent n history) plan.groups

-- the plans go on from `phases` phases of a history over n vertices, one after another
abbrev pub GoOn : ℕ → ℕ → List Entry → List PhasePlan → Type 0
GoOn n phases history [] = Unit {0}
GoOn n phases history (plan ∷ plans) = IsNext n phases history plan × GoOn n (phases + 1) (history ++ entries_of plan) plans

-- the phases of the plans are shown
--
-- The history grew by their entries, each group is published, each move is cleared, and no marker is out.
pub record AreShown (plans : List PhasePlan) (old new : WriterState) : Type 0 where
  pub vertices : new.vertices ≡ old.vertices
  pub history : new.history ≡ old.history ++ entries_in plans
  pub phase : new.phase ≡ old.phase + length plans
  pub idle : IsIdle new

-- the phases of the plans continue the history of a writer to the state s
--
-- They are well formed and numbered on. Each moves vertices from their levels when it begins, from the end of the
-- history on. The last has the number of phases of s, and the levels after it are those of s.
pub record Continues (w : WriterState) (s : State) (plans : List PhasePlan) : Type 0 where
  pub phases : GoOn s.graph.vertices w.phase w.history plans
  pub count : w.phase + length plans ≡ s.phases
  pub levels : points.levels_at s.graph.vertices (w.history ++ entries_in plans) (length (w.history ++ entries_in plans)) ≡ s.levels

-- the writer is up to date with the state s: its history leads to s, and it may begin a phase
pub record IsAbreast (w : WriterState) (s : State) : Type 0 where
  pub vertices : w.vertices ≡ s.graph.vertices
  pub phase : w.phase ≡ s.phases
  pub history : IsHistoryOf s.graph.vertices w.history s
  pub idle : IsIdle w

-- if a writer is up to date with the state before a batch, the phases of the batch continue its history
abbrev pub PhasesContinue : Type 0
PhasesContinue =
    (limit : ℕ) (w : WriterState) (s t : State) (c : Cleaned) (plans : List PhasePlan) → IsSound limit s → IsCleaning s.graph c → IsAfterPhases s c t plans →
    IsAbreast w s → Continues w t plans

-- once they are shown, the writer is up to date with the state after the batch
abbrev pub ShownIsAbreast : Type 0
ShownIsAbreast =
    (limit : ℕ) (w x : WriterState) (s t : State) (c : Cleaned) (plans : List PhasePlan) → IsSound limit s → IsCleaning s.graph c → IsAfterPhases s c t plans →
    IsAbreast w s → AreShown plans w x → IsAbreast x t
