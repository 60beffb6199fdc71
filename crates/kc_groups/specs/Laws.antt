-- Laws of the entries of a phase; each is the contract of a function in `laws`.
use Rattle.std.specs.Prelude.{ℕ, ◌≡◌, ◌<◌, Bool, true, false, cond, List, Some, length, get_or, count_by, take, All, Contains, ◌++◌}
use Rattle.kc_graph.specs.Numbers.{RisesFrom}
use Rattle.kc_graph.specs.Shape.{GraphShape, Pair, IsGraph, EdgesFrom, has_edge, with_edges, without_edges}
use Rattle.kc_graph.specs.Changes.{AllPresent}
use Rattle.kc_levels.specs.Moved.{is_moved, move_of}
use Rattle.kc_levels.specs.declared.profile.Profile.{Profile}
use Rattle.kc_levels.specs.LevelList.{IsBelow}
use Rattle.kc_levels.specs.Between.{IsBetween}
use Rattle.kc_levels.specs.declared.moves.Move.{Move}
use Rattle.kc_history.specs.declared.entries.Entry.{Entry}
use Rattle.kc_history.specs.Points.{graph_after, levels_after}
use Rattle.kc_groups.specs.declared.plans.PhasePlan.{PhasePlan}
use Rattle.kc_groups.specs.Links.{IsLabel, AreLabels}
use Rattle.kc_groups.specs.Entries.{entries_of, entries_in, AreEntries}
use Rattle.kc_groups.specs.Phases.{LeadOn}
use Rattle.kc_groups.specs.WellFormed.{IsWellFormed, vertices_of}

-- there is exactly one list of labels
abbrev pub LabelsAreOne : Type 0
LabelsAreOne =
    (g : GraphShape) (x y : List ℕ) → IsGraph g →
    (labels : List ℕ) × (AreLabels g (is_moved x y) labels × ((others : List ℕ) → AreLabels g (is_moved x y) others → others ≡ labels))

-- a phase with levels x and y on the vertices of a graph, whose edges ascend and are in the graph
pub record IsPhase (edges : List Pair) (x y : List ℕ) (g : GraphShape) : Type 0 where
  pub graph : IsGraph g
  pub before : length x ≡ g.vertices
  pub after : length y ≡ g.vertices
  pub ascending : EdgesFrom g.vertices 0 0 edges
  pub present : AllPresent g edges

-- there is exactly one plan with these entries
abbrev pub PlanIsOne : Type 0
PlanIsOne =
    (phase : ℕ) (add : Bool) (edges : List Pair) (x y : List ℕ) (g : GraphShape) → IsGraph g →
    (plan : PhasePlan) × (AreEntries phase add edges x y g plan × ((other : PhasePlan) → AreEntries phase add edges x y g other → other ≡ plan))

-- the plan is well formed
abbrev pub PlanIsWellFormed : Type 0
PlanIsWellFormed =
    (phase : ℕ) (add : Bool) (edges : List Pair) (x y : List ℕ) (g : GraphShape) (plan : PhasePlan) →
    AreEntries phase add edges x y g plan → IsWellFormed g.vertices plan

-- a vertex that moves has its move in the entry of its label
pub record HasMove (x y : List ℕ) (v l : ℕ) (plan : PhasePlan) : Type 0 where
  pub place : ℕ
  pub inside : place < length plan.groups
  pub label : (get_or plan.groups place plan.quiet).label ≡ Some l
  pub move : Contains (get_or plan.groups place plan.quiet).moves (move_of x y v)

-- a move of a vertex that moves, in the entry of its label
pub record IsOwnMove (x y : List ℕ) (g : GraphShape) (e : Entry) (m : Move) : Type 0 where
  pub inside : m.vertex < g.vertices
  pub moves : is_moved x y m.vertex ≡ true
  pub move : m ≡ move_of x y m.vertex
  pub label : ℕ
  pub label_is : IsLabel g (is_moved x y) m.vertex label
  pub entry : e.label ≡ Some label

-- the moves of the plan are those of the vertices that move, each in the entry of its label with its levels before and
-- after
pub record MovesAreInTheirGroups : Type 0 where
  pub each : (phase : ℕ) (add : Bool) (edges : List Pair) (x y : List ℕ) (g : GraphShape) (plan : PhasePlan) (v l : ℕ) → IsGraph g → AreEntries phase add edges x y g plan → v < g.vertices → is_moved x y v ≡ true → IsLabel g (is_moved x y) v l → HasMove x y v l plan
  pub only : (phase : ℕ) (add : Bool) (edges : List Pair) (x y : List ℕ) (g : GraphShape) (plan : PhasePlan) → AreEntries phase add edges x y g plan → All (λ e. All (IsOwnMove x y g e) e.moves) plan.groups

-- each edge of the phase is in exactly one entry, and every other pair in none
abbrev pub EdgesAreDealtOnce : Type 0
EdgesAreDealtOnce =
    (phase : ℕ) (add : Bool) (edges : List Pair) (x y : List ℕ) (g : GraphShape) (plan : PhasePlan) (e : Pair) →
    IsPhase edges x y g → AreEntries phase add edges x y g plan →
    count_by (λ (t : Entry). has_edge e t.edges) (entries_of plan) ≡ cond (has_edge e edges) 1 0

-- the entries, one after another, lead from the graph and levels before the phase to those after it
pub record EntriesLeadOver : Type 0 where
  pub graph : (phase : ℕ) (add : Bool) (edges : List Pair) (x y : List ℕ) (g before : GraphShape) (plan : PhasePlan) → IsPhase edges x y g → AreEntries phase add edges x y g plan → IsGraph before → before.vertices ≡ g.vertices → graph_after before (entries_of plan) ≡ cond add (with_edges before edges) (without_edges before edges)
  pub levels : (phase : ℕ) (add : Bool) (edges : List Pair) (x y : List ℕ) (g : GraphShape) (plan : PhasePlan) → IsPhase edges x y g → AreEntries phase add edges x y g plan → levels_after x (entries_of plan) ≡ y

-- at each point of a phase the graph and levels lie between those before and those after it
pub record PointsLieBetween : Type 0 where
  pub insertion : (phase : ℕ) (edges : List Pair) (x y : List ℕ) (g before : GraphShape) (plan : PhasePlan) (p : ℕ) → IsPhase edges x y g → AreEntries phase true edges x y g plan → IsGraph before → before.vertices ≡ g.vertices → g ≡ with_edges before edges → IsBelow g.vertices x y → IsBetween before g (graph_after before (take p (entries_of plan))) x y (levels_after x (take p (entries_of plan)))
  pub deletion : (phase : ℕ) (edges : List Pair) (x y : List ℕ) (g : GraphShape) (plan : PhasePlan) (p : ℕ) → IsPhase edges x y g → AreEntries phase false edges x y g plan → IsBelow g.vertices y x → IsBetween (without_edges g edges) g (graph_after g (take p (entries_of plan))) y x (levels_after x (take p (entries_of plan)))

-- moves and edges ascend in each entry
pub record PlanAscends : Type 0 where
  pub moves : (phase : ℕ) (add : Bool) (edges : List Pair) (x y : List ℕ) (g : GraphShape) (plan : PhasePlan) → AreEntries phase add edges x y g plan → All (λ e. RisesFrom 0 (vertices_of e)) plan.groups
  pub edges : (phase : ℕ) (add : Bool) (edges : List Pair) (x y : List ℕ) (g : GraphShape) (plan : PhasePlan) → IsPhase edges x y g → AreEntries phase add edges x y g plan → All (λ e. EdgesFrom g.vertices 0 0 e.edges) (entries_of plan)

-- the entries of phases, one after another, lead from the graph and levels before the first phase to those after the
-- last
--
-- Phases that follow lead on from there.
pub record PhasesLead : Type 0 where
  pub graph : (p : Profile) (g h : GraphShape) (x y : List ℕ) (plans : List PhasePlan) → IsGraph g → length x ≡ g.vertices → LeadOn p g x plans h y → graph_after g (entries_in plans) ≡ h
  pub levels : (p : Profile) (g h : GraphShape) (x y : List ℕ) (plans : List PhasePlan) → IsGraph g → length x ≡ g.vertices → LeadOn p g x plans h y → levels_after x (entries_in plans) ≡ y
  pub on : (p : Profile) (g h k : GraphShape) (x y z : List ℕ) (plans more : List PhasePlan) → LeadOn p g x plans h y → LeadOn p h y more k z → LeadOn p g x (plans ++ more) k z
