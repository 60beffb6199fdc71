-- Risers and the neighbours above them that they meet on their way up.
--
-- In a sweep from level to level the vertices of x rise to y. A riser v and a neighbour w that stood above it meet on
-- the level of w. There w begins to count v. If v goes on and w stays, v counts w no more.
use Rattle.std.specs.Prelude.{ℕ, ◌<◌, ◌≡◌, true, false, List, [], ◌∷◌, get_or}
use Rattle.kc_graph.specs.Numbers.{has_number}
use Rattle.kc_graph.specs.Shape.{GraphShape, Pair, neighbours_of, has_edge}

-- no pair is in the list twice
abbrev pub AreApart : List Pair → Type 0
AreApart [] = Unit {0}
AreApart (e ∷ es) = (has_edge e es ≡ false) × AreApart es

-- v rises and meets its neighbour w on the level k
pub record IsMeeting (g : GraphShape) (x : List ℕ) (k v w : ℕ) : Type 0 where
  pub near : has_number w (neighbours_of v g.edges) ≡ true
  pub level : get_or x w 0 ≡ k
  pub below : get_or x v 0 < k
