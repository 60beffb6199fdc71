-- A plan by the places of its groups and moves.
use Rattle.std.specs.Prelude.{◌≡◌, ◌≢◌, ◌<◌, length, ℕ, Bool, List, [], ◌∷◌, Some, None, get_or}
use Rattle.std.specs.List.{slice_get}
use Rattle.kc_history.specs.declared.entries.Entry.{Entry}
pub use Rattle.kc_levels.specs.declared.moves.Move.{Move}
use Rattle.kc_history.specs.Ends.{last_move}
use Rattle.kc_groups.specs.declared.plans.PhasePlan.{PhasePlan}

-- the group at place g of a plan
abbrev pub group_at : PhasePlan → ℕ → Entry
group_at plan g = get_or plan.groups g plan.quiet

-- a list of moves in which no vertex has two
abbrev pub AreDistinct : List Move → Type 0
AreDistinct [] = Unit {0}
AreDistinct (m ∷ ms) = (last_move m.vertex ms ≡ None) × AreDistinct ms

-- a move of one of n vertices to another level
pub record IsMoveIn (n : ℕ) (m : Move) : Type 0 where
  pub inside : m.vertex < n
  pub differ : m.old ≢ m.new

-- a group of the phase
pub record IsGroupOf (n phase : ℕ) (add : Bool) (e : Entry) : Type 0 where
  pub phase_is : e.phase ≡ phase
  pub add_is : e.add ≡ add
  pub label : ℕ
  pub label_is : e.label ≡ Some label
  pub label_in : label < n
  pub some : 0 < length e.moves
  pub moves : (i : ℕ) (m : Move) → slice_get e.moves i ≡ Some m → IsMoveIn n m
  pub distinct : AreDistinct e.moves

-- the label of e is less than that of f, and they have no vertex in common
pub record IsBefore (e f : Entry) : Type 0 where
  pub labels : (a b : ℕ) → e.label ≡ Some a → f.label ≡ Some b → a < b
  pub vertices : (v : ℕ) (m : Move) → last_move v f.moves ≡ Some m → last_move v e.moves ≡ None

-- a plan of a phase that is well formed for n vertices, in terms of places
pub record IsFormed (n phase : ℕ) (plan : PhasePlan) : Type 0 where
  pub phase_is : plan.quiet.phase ≡ phase
  pub no_label : plan.quiet.label ≡ None
  pub no_moves : plan.quiet.moves ≡ []
  pub groups : (k : ℕ) (e : Entry) → slice_get plan.groups k ≡ Some e → IsGroupOf n phase plan.quiet.add e
  pub ascend : (k l : ℕ) (e f : Entry) → k < l → slice_get plan.groups k ≡ Some e → slice_get plan.groups l ≡ Some f → IsBefore e f
