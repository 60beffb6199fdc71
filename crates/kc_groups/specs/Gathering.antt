-- The moves of a phase, each with its place in their list, gathered by links.
use Rattle.std.specs.Prelude.{ℕ, ◌≡◌, List, length, map, replicate}
use Rattle.kc_graph.specs.Numbers.{RisesFrom, AllBelow}
use Rattle.kc_levels.specs.declared.moves.Move.{Move}
use Rattle.kc_levels.specs.Moved.{moves_between}

-- the vertices of moves
abbrev pub vertices : List Move → List ℕ
vertices ms = map (λ (m : Move). m.vertex) ms

-- the vertices of the moves ascend, each once, and are below n
pub record AreInOrder (n : ℕ) (ms : List Move) : Type 0 where
  pub rises : RisesFrom 0 (vertices ms)
  pub below : AllBelow n (vertices ms)

-- the moves are those of n vertices from the levels x to y
pub record AreMovesOf (n : ℕ) (x y : List ℕ) (ms : List Move) : Type 0 where
  pub before : length x ≡ n
  pub after : length y ≡ n
  pub moves : ms ≡ moves_between n x y

-- the numbers of n vertices between phases
abbrev pub clean : ℕ → List ℕ
clean n = replicate n n
