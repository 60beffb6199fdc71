-- The points of the history of an input, entry by entry.
use Rattle.std.specs.Prelude.{ℕ, List, [], ◌∷◌, ◌++◌, take}
use Rattle.kc_levels.specs.declared.profile.Profile.{Profile}
use Rattle.kc_history.specs.Points.{graph_at, levels_at}
use Rattle.kc_groups.specs.declared.plans.PhasePlan.{PhasePlan}
use Rattle.kc_groups.specs.Phases.{LeadOn}
use Rattle.kc_bound.specs.Nearness.{IsNear}
use Rattle.kc_engine.specs.Laws.{IsHistoryOf}
use Rattle.kc_session.specs.States.{Step, start, last_state, history_of}

-- the phases of all batches, one after another
abbrev pub phases_in : List Step → List PhasePlan
phases_in [] = []
phases_in (t ∷ ts) = t.phases ++ phases_in ts

-- at each point of the history of these steps both invariants hold, and the levels are near the coreness
--
-- A point past the end is the end.
abbrev pub AreNearAtEachPoint : Profile → ℕ → List Step → Type 0
AreNearAtEachPoint p n steps = (point : ℕ) → IsNear p (graph_at n (history_of steps) point) (levels_at n (history_of steps) point)

-- the states of these steps are points of their history
--
-- The history of the batches up to one of them ends at the state after it. The phases lead from the graph without edges
-- on level 0 to the last state.
pub record ArePoints (p : Profile) (n : ℕ) (steps : List Step) : Type 0 where
  pub each : (count : ℕ) → IsHistoryOf n (history_of (take count steps)) (last_state (start p n) (take count steps))
  pub last : IsHistoryOf n (history_of steps) (last_state (start p n) steps)
  pub phases : LeadOn p (start p n).graph (start p n).levels (phases_in steps) (last_state (start p n) steps).graph (last_state (start p n) steps).levels
