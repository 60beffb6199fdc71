-- Numbers, trees and labels of vertices that move.
use Rattle.std.specs.Prelude.{ℕ, ◌<◌, ◌≡◌, ◌==◌, nat_le, nat_lt, Bool, false, ◌-◌, ◌&&◌, ◌||◌, List, length, get_or}
use Rattle.kc_graph.specs.Numbers.{RisesFrom, AllBelow, has_number}
use Rattle.kc_graph.specs.Shape.{GraphShape, Pair, neighbours_of, has_edge}
use Rattle.kc_levels.specs.declared.moves.Move.{Move}
use Rattle.kc_groups.specs.Gathering.{vertices}

-- v is the vertex of a move
abbrev pub is_mover : List Move → ℕ → Bool
is_mover ms v = has_number v (vertices ms)

-- each of n vertices that isn't among the movers has the number n
abbrev pub HaveNone : ℕ → List ℕ → List ℕ → Type 0
HaveNone n movers numbers = (v : ℕ) → v < n → has_number v movers ≡ false → get_or numbers v 0 ≡ n

-- the place of each of n vertices in the list of movers, and n for every other vertex
pub record AreNumbered (n : ℕ) (movers places : List ℕ) : Type 0 where
  pub rises : RisesFrom 0 movers
  pub below : AllBelow n movers
  pub sized : length places ≡ n
  pub at : (i : ℕ) → i < length movers → get_or places (get_or movers i 0) 0 ≡ i
  pub none : HaveNone n movers places

-- the vertex at place j comes before the one at place i and is in a list of its neighbours
abbrev pub is_near : List ℕ → List ℕ → ℕ → ℕ → Bool
is_near movers items i j = nat_lt j i && has_number (get_or movers j 0) items

-- the movers at places i and j are joined in the graph; i is at least `from` and below k, and j is less
abbrev pub in_rows : GraphShape → List ℕ → ℕ → ℕ → ℕ → ℕ → Bool
in_rows g movers from k i j = nat_le from i && (nat_lt i k && is_near movers (neighbours_of (get_or movers i 0) g.edges) i j)

-- the same for the movers at place k alone
abbrev pub in_row : GraphShape → List ℕ → ℕ → ℕ → ℕ → Bool
in_row g movers k i j = (i == k) && is_near movers (neighbours_of (get_or movers k 0) g.edges) i j

-- the same for the movers from place `from` on and below k, and for as many at the other end of the list
abbrev pub in_piece : GraphShape → List ℕ → ℕ → ℕ → ℕ → ℕ → Bool
in_piece g movers from k i j = in_rows g movers from k i j || in_rows g movers (length movers - k) (length movers - from) i j

-- an edge leads from the mover at place i to the one at place j
abbrev pub in_edges : List Pair → List ℕ → ℕ → ℕ → Bool
in_edges edges movers i j = has_edge (get_or movers i 0, get_or movers j 0) edges

-- the label of each mover is the vertex of its root, and no other vertex has a label
pub record AreLabelled (n : ℕ) (movers roots labels : List ℕ) : Type 0 where
  pub sized : length labels ≡ n
  pub at : (i : ℕ) → i < length movers → get_or labels (get_or movers i 0) 0 ≡ get_or movers (get_or roots i 0) 0
  pub none : HaveNone n movers labels
