-- Phases, one after another: edges come into a graph and its levels rise, or edges leave it and its levels fall.
use Rattle.std.specs.Prelude.{ℕ, ◌≡◌, ◌≢◌, Bool, true, false, List, [], ◌∷◌}
use Rattle.kc_graph.specs.Shape.{GraphShape, Pair, EdgesFrom, with_edges, without_edges}
use Rattle.kc_graph.specs.Changes.{AllAbsent, AllPresent}
use Rattle.kc_levels.specs.declared.profile.Profile.{Profile}
use Rattle.kc_levels.specs.LevelList.{IsRaised, IsLowered}
use Rattle.kc_groups.specs.declared.plans.PhasePlan.{PhasePlan}
use Rattle.kc_groups.specs.Entries.{AreEntries}

-- edges that come in are not in the graph yet, and edges that leave are in it
abbrev pub AreChangeable : Bool → GraphShape → List Pair → Type 0
AreChangeable true g edges = AllAbsent g edges
AreChangeable false g edges = AllPresent g edges

-- the graph after the phase
abbrev pub graph_after_phase : Bool → GraphShape → List Pair → GraphShape
graph_after_phase true g edges = with_edges g edges
graph_after_phase false g edges = without_edges g edges

-- the graph that has all edges of the phase: the graph after edges come in, or before edges leave
abbrev pub graph_with_all : Bool → GraphShape → List Pair → GraphShape
graph_with_all true g edges = with_edges g edges
graph_with_all false g edges = g

-- the levels y after the phase at the levels x
--
-- They are raised in the graph after edges came in, and lowered in the graph after edges left.
abbrev pub AreLevelsAfterPhase : Profile → Bool → GraphShape → List Pair → List ℕ → List ℕ → Type 0
AreLevelsAfterPhase p true g edges x y = IsRaised p (with_edges g edges) x y
AreLevelsAfterPhase p false g edges x y = IsLowered p (without_edges g edges) x y

-- the plan is a phase that leads from the graph g at the levels x to the graph h at the levels y
pub record LeadsTo (p : Profile) (g : GraphShape) (x : List ℕ) (plan : PhasePlan) (h : GraphShape) (y : List ℕ) : Type 0 where
  pub phase : ℕ
  -- its edges come in
  pub add : Bool
  pub edges : List Pair
  pub some : edges ≢ []
  pub ascending : EdgesFrom g.vertices 0 0 edges
  pub changeable : AreChangeable add g edges
  pub graph : h ≡ graph_after_phase add g edges
  pub levels : AreLevelsAfterPhase p add g edges x y
  pub entries : AreEntries phase add edges x y (graph_with_all add g edges) plan

-- the plans are phases that lead, one after another, from the graph g at the levels x to the graph h at the levels y
abbrev pub LeadOn : Profile → GraphShape → List ℕ → List PhasePlan → GraphShape → List ℕ → Type 0
LeadOn p g x [] h y = (h ≡ g) × (y ≡ x)
LeadOn p g x (plan ∷ plans) h y = (m : GraphShape) × ((z : List ℕ) × (LeadsTo p g x plan m z × LeadOn p m z plans h y))
