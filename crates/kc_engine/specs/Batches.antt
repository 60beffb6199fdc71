-- Batches one after another: whether a state refuses a cleaned batch, and otherwise the state after the batch.
use Rattle.std.specs.Prelude.{ℕ, ◌≡◌, ◌≤◌, ◌+◌, ◌-◌, nat_lt, ◌&&◌, Bool, true, false, List, [], ◌∷◌, ◌++◌, length, Option, Some, None, if◌then◌else◌, All}
use Rattle.kc_graph.specs.declared.cleaning.Cleaned.{Cleaned}
use Rattle.kc_graph.specs.declared.items.Item.{Item}
use Rattle.kc_graph.specs.declared.limits.TheConstants.{MAX_ITEMS}
use Rattle.kc_graph.specs.Shape.{Pair, GraphShape, with_edges, without_edges}
use Rattle.kc_graph.specs.Cleaning.{IsInside, cleaned}
use Rattle.kc_levels.specs.declared.profile.Profile.{Profile}
use Rattle.kc_levels.specs.LevelList.{IsRaised, IsLowered}
use Rattle.kc_levels.specs.Moved.{moved_count}
use Rattle.kc_history.specs.declared.limits.TheConstants.{MAX_PHASE}
use Rattle.kc_groups.specs.declared.plans.PhasePlan.{PhasePlan}
use Rattle.kc_groups.specs.Entries.{AreEntries}
use Rattle.kc_engine.specs.declared.faults.EngineFault.{EngineFault}
use Rattle.kc_engine.specs.declared.faults.EngineFault.TheVariants.{EdgeLimit, PhaseLimit}
use Rattle.kc_engine.specs.States.{State}

-- c is the cleaning of some batch of items in the graph
--
-- The batch has not too many items, and their vertices are vertices of the graph.
pub record IsCleaning (g : GraphShape) (c : Cleaned) : Type 0 where
  pub items : List Item
  pub inside : All (IsInside g.vertices) items
  pub few : length items ≤ MAX_ITEMS
  pub comes_to : c ≡ cleaned g items

-- the number of phases in which these edges leave, or come in
abbrev pub phases_for : List Pair → ℕ
phases_for [] = 0
phases_for (e ∷ es) = 1

-- the number of phases of the batch: one for the edges that leave, and one for those that come in
abbrev pub phases_of : Cleaned → ℕ
phases_of c = phases_for c.removed + phases_for c.added

-- the number of edges after the batch
abbrev pub edges_after : State → Cleaned → ℕ
edges_after s c = (length s.graph.edges - length c.removed) + length c.added

-- the number of phases after the batch: the number of its last phase, if it has one
abbrev pub phases_after : State → Cleaned → ℕ
phases_after s c = s.phases + phases_of c

-- why the batch is refused in this state, if it is
--
-- There would be more edges than the limit, or its last phase would have too great a number.
abbrev pub refusal_of : ℕ → State → Cleaned → Option EngineFault
refusal_of limit s c =
    if nat_lt limit (edges_after s c) then Some (EdgeLimit (edges_after s c))
    else if nat_lt 0 (phases_of c) && nat_lt MAX_PHASE (phases_after s c) then Some (PhaseLimit (phases_after s c))
    else None

-- the levels y after these edges left the graph at the levels x: if there are any, the levels are lowered from x
abbrev pub AreLoweredIn : Profile → GraphShape → List Pair → List ℕ → List ℕ → Type 0
AreLoweredIn p g [] x y = y ≡ x
AreLoweredIn p g (e ∷ es) x y = IsLowered p (without_edges g (e ∷ es)) x y

-- the levels y after these edges came into the graph at the levels x: if there are any, the levels are raised from x
abbrev pub AreRaisedIn : Profile → GraphShape → List Pair → List ℕ → List ℕ → Type 0
AreRaisedIn p g [] x y = y ≡ x
AreRaisedIn p g (e ∷ es) x y = IsRaised p (with_edges g (e ∷ es)) x y

-- the graph after the edges `removed` left and then the edges `added` came in
abbrev pub graph_after_batch : GraphShape → Cleaned → GraphShape
graph_after_batch g c = with_edges (without_edges g c.removed) c.added

-- the levels y after the batch at the levels x: first some edges leave, then some come in
pub record AreLevelsAfter (p : Profile) (g : GraphShape) (c : Cleaned) (x y : List ℕ) : Type 0 where
  -- the levels after the deletion phase, if there is one
  pub between : List ℕ
  pub lowered : AreLoweredIn p g c.removed x between
  pub raised : AreRaisedIn p (without_edges g c.removed) c.added between y

-- the number of moves in two phases over n vertices: from the levels x to y, and from there to z
abbrev pub moves_through : ℕ → List ℕ → List ℕ → List ℕ → ℕ
moves_through n x y z = moved_count n x y + moved_count n y z

-- t is the state after this batch, which isn't refused, in the state s
pub record IsAfterBatch (s : State) (c : Cleaned) (t : State) : Type 0 where
  pub profile : t.profile ≡ s.profile
  pub graph : t.graph ≡ graph_after_batch s.graph c
  pub levels : AreLevelsAfter s.profile s.graph c s.levels t.levels
  pub phases : t.phases ≡ phases_after s c

-- `plans` has one plan, with the entries of the phase
pub record IsOnePhase (phase : ℕ) (add : Bool) (edges : List Pair) (x y : List ℕ) (g : GraphShape) (plans : List PhasePlan) : Type 0 where
  pub plan : PhasePlan
  pub alone : plans ≡ plan ∷ []
  pub entries : AreEntries phase add edges x y g plan

-- the phase in which these edges come in, or leave, and the levels change from x to y
--
-- There is one phase if there are edges, and else none; g is the graph that has the edges.
abbrev pub ArePhaseOf : ℕ → Bool → List Pair → List ℕ → List ℕ → GraphShape → List PhasePlan → Type 0
ArePhaseOf phase add [] x y g plans = plans ≡ []
ArePhaseOf phase add (e ∷ es) x y g plans = IsOnePhase phase add (e ∷ es) x y g plans

-- the phases of the batch, numbered on from those before
--
-- The levels change from x to `between` when edges leave the graph g, and from there to y when edges come in.
pub record ArePhases (before : ℕ) (g : GraphShape) (c : Cleaned) (x between y : List ℕ) (plans : List PhasePlan) : Type 0 where
  pub leaving : List PhasePlan
  pub coming : List PhasePlan
  pub all : plans ≡ leaving ++ coming
  pub deletion : ArePhaseOf (before + 1) false c.removed x between g leaving
  pub insertion : ArePhaseOf (before + phases_for c.removed + 1) true c.added between y (graph_after_batch g c) coming

-- t is the state after this batch, which isn't refused, in the state s; `plans` are the phases of the batch
pub record IsAfterPhases (s : State) (c : Cleaned) (t : State) (plans : List PhasePlan) : Type 0 where
  pub after : IsAfterBatch s c t
  pub phases : ArePhases s.phases s.graph c s.levels after.levels.between t.levels plans
