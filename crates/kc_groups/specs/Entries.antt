-- The entries of a phase that changes the levels x to y. Its edges come in if `add` is true, and leave if it is false.
use Rattle.std.specs.Prelude.{ℕ, ◌≡◌, ◌==◌, ◌||◌, ◌&&◌, Bool, not, List, [], ◌∷◌, ◌++◌, Some, None, get_or, map, filter}
use Rattle.std.proofs.Common.{suc, zero}
use Rattle.kc_graph.specs.Shape.{GraphShape, Pair, with_edges}
use Rattle.kc_levels.specs.Moved.{is_moved, pushed_if, move_of}
use Rattle.kc_levels.specs.declared.moves.Move.{Move}
use Rattle.kc_history.specs.declared.entries.Entry.{Entry}
use Rattle.kc_groups.specs.declared.plans.Phase.{Phase}
use Rattle.kc_groups.specs.declared.plans.PhasePlan.{PhasePlan}
use Rattle.kc_groups.specs.Gathering.{AreMovesOf}
use Rattle.kc_groups.specs.Links.{AreLabels}

-- the labels among the vertices below k, ascending; a label is a vertex that is its own label
abbrev pub labels_below : List ℕ → ℕ → List ℕ
labels_below labels zero = []
labels_below labels (suc k) = pushed_if (get_or labels k 0 == k) k (labels_below labels k)

-- the moves of the vertices below k whose label is l, ascending
abbrev pub moves_below : List ℕ → List ℕ → List ℕ → ℕ → ℕ → List Move
moves_below labels x y l zero = []
moves_below labels x y l (suc k) = pushed_if (get_or labels k 0 == l) (move_of x y k) (moves_below labels x y l k)

-- an end of the edge has the label l
abbrev pub ends_at : List ℕ → ℕ → Pair → Bool
ends_at labels l e = (get_or labels e.0 0 == l) || (get_or labels e.1 0 == l)

-- no end of the edge moves
abbrev pub is_quiet : List ℕ → List ℕ → Pair → Bool
is_quiet x y e = not (is_moved x y e.0) && not (is_moved x y e.1)

-- the entry of the edges without an end that moves
abbrev pub quiet_entry : ℕ → Bool → List Pair → List ℕ → List ℕ → Entry
quiet_entry phase add edges x y = record { phase = phase; label = None; add = add; moves = []; edges = filter (is_quiet x y) edges }

-- the entry of the label l: the moves of its vertices, and the edges with an end among them
abbrev pub group_entry : ℕ → Bool → List Pair → List ℕ → List ℕ → List ℕ → ℕ → ℕ → Entry
group_entry phase add edges x y labels n l = record { phase = phase; label = Some l; add = add; moves = moves_below labels x y l n; edges = filter (ends_at labels l) edges }

-- the entries of a plan, in the order in which they take effect
abbrev pub entries_of : PhasePlan → List Entry
entries_of plan = plan.quiet ∷ plan.groups

-- the entries of plans, one plan after another
abbrev pub entries_in : List PhasePlan → List Entry
entries_in [] = []
entries_in (plan ∷ plans) = entries_of plan ++ entries_in plans

-- the plan has the entries of the phase: the quiet one, and one for each label, labels ascending
pub record AreEntries (phase : ℕ) (add : Bool) (edges : List Pair) (x y : List ℕ) (g : GraphShape) (plan : PhasePlan) : Type 0 where
  pub labels : List ℕ
  pub are_labels : AreLabels g (is_moved x y) labels
  pub quiet : plan.quiet ≡ quiet_entry phase add edges x y
  pub groups : plan.groups ≡ map (group_entry phase add edges x y labels g.vertices) (labels_below labels g.vertices)

-- the plan has the entries of the phase, by any levels between which its moves lead
--
-- The edges `gone` of the phase aren't in the graph g.
abbrev pub IsPhasePlan : Phase → GraphShape → List Pair → PhasePlan → Type 0
IsPhasePlan phase g gone plan = (x y : List ℕ) → AreMovesOf g.vertices x y phase.moves.now → AreEntries phase.number phase.add phase.edges.now x y (with_edges g gone) plan
