-- The facts that hold of each plan of a phase.
use Rattle.std.specs.Prelude.{ℕ, ◌≤◌, ◌<◌, ◌≡◌, ◌≢◌, Bool, List, [], Some, None, length, get_or, map, All}
use Rattle.kc_graph.specs.Numbers.{RisesFrom, AllBelow}
use Rattle.kc_levels.specs.declared.moves.Move.{Move}
use Rattle.kc_history.specs.declared.entries.Entry.{Entry}
use Rattle.kc_groups.specs.declared.plans.PhasePlan.{PhasePlan}

-- a move of a vertex below n to another level
pub record IsMove (n : ℕ) (m : Move) : Type 0 where
  pub vertex : m.vertex < n
  pub differ : m.old ≢ m.new

-- an entry of the phase with at least one move
pub record IsGroupEntry (n phase : ℕ) (add : Bool) (e : Entry) : Type 0 where
  pub phase_is : e.phase ≡ phase
  pub add_is : e.add ≡ add
  pub some : 1 ≤ length e.moves
  pub moves : All (IsMove n) e.moves

-- the vertices that move in an entry
abbrev pub vertices_of : Entry → List ℕ
vertices_of e = map (λ (m : Move). m.vertex) e.moves

-- the vertex of move a of group i
abbrev pub vertex_at : PhasePlan → ℕ → ℕ → ℕ
vertex_at plan i a = get_or (vertices_of (get_or plan.groups i plan.quiet)) a 0

-- a well-formed plan: a quiet entry without moves, and then groups of one phase and one direction
--
-- The labels ascend, and no vertex moves twice in the groups.
pub record IsWellFormed (n : ℕ) (plan : PhasePlan) : Type 0 where
  pub quiet_label : plan.quiet.label ≡ None
  pub quiet_moves : plan.quiet.moves ≡ []
  pub groups : All (IsGroupEntry n plan.quiet.phase plan.quiet.add) plan.groups
  pub labels : List ℕ
  pub labels_are : map (λ (e : Entry). e.label) plan.groups ≡ map Some labels
  pub labels_rise : RisesFrom 0 labels
  pub labels_below : AllBelow n labels
  pub once : (i j a b : ℕ) → i < length plan.groups → j < length plan.groups → a < length (vertices_of (get_or plan.groups i plan.quiet)) → b < length (vertices_of (get_or plan.groups j plan.quiet)) → vertex_at plan i a ≡ vertex_at plan j b → (i ≡ j) × (a ≡ b)
