-- The invariants of the loops that change the counts of a vertex's neighbours when the vertex moves to another level.
use Rattle.std.specs.Prelude.{ℕ, ◌+◌, ◌-◌, ◌<◌, ◌≡◌, cond, nat_lt, nat_le, ◌&&◌, Bool, true, false, List, length, get_or, set}
use Rattle.kc_graph.specs.Numbers.{has_number, RisesFrom}
use Rattle.kc_graph.specs.Shape.{GraphShape, neighbours_of}
use Rattle.kc_levels.specs.LevelList.{at_least}

-- the level r is passed or reached on the way up from the level k to the level l
abbrev pub is_passed : ℕ → ℕ → ℕ → Bool
is_passed k l r = nat_lt k r && nat_le r l

-- a count of c neighbours on the level r or above, after one of them went from the level k to the level l
abbrev pub recounted : ℕ → ℕ → ℕ → ℕ → ℕ
recounted k l r c = (c + cond (is_passed k l r) 1 0) - cond (is_passed l k r) 1 0

-- v goes to the level k, and its neighbours in `rest` have their counts with v on its old level
--
-- All other counts are with v on k. Each vertex counts from its old level less d on.
pub record IsMoving (g : GraphShape) (x : List ℕ) (v k d : ℕ) (counts rest : List ℕ) : Type 0 where
  pub sized : length counts ≡ g.vertices
  pub first : ℕ
  pub rises : RisesFrom first rest
  pub near : (u : ℕ) → has_number u rest ≡ true → has_number u (neighbours_of v g.edges) ≡ true
  pub waits : (u : ℕ) → u < g.vertices → has_number u rest ≡ true → get_or counts u 0 ≡ at_least g x u (get_or x u 0 - d)
  pub done : (u : ℕ) → u < g.vertices → has_number u rest ≡ false → get_or counts u 0 ≡ at_least g (set x v k) u (get_or x u 0 - d)
