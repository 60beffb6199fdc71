-- How an edge that comes in or leaves changes the counts of its ends.
use Rattle.std.specs.Prelude.{ℕ, ◌+◌, ◌-◌, ◌≡◌, nat_le, cond, List, get_or, set}
use Rattle.kc_graph.specs.Shape.{GraphShape, Pair, with_edges, without_edges}
use Rattle.kc_graph.specs.Changes.{CanAdd, CanRemove}
use Rattle.kc_adj.specs.LeveledGraph.{IsAdjacency}

-- 1 if v counts w, else 0; v counts from d levels below its own level on
abbrev pub share : List ℕ → ℕ → ℕ → ℕ → ℕ
share x d v w = cond (nat_le (get_or x v 0 - d) (get_or x w 0)) 1 0

-- the counts after a and b got each other as neighbours
abbrev pub linked : List ℕ → ℕ → ℕ → ℕ → List ℕ → List ℕ
linked x d a b counts = set (set counts a (get_or counts a 0 + share x d a b)) b (get_or counts b 0 + share x d b a)

-- the counts after a and b lost each other as neighbours
abbrev pub unlinked : List ℕ → ℕ → ℕ → ℕ → List ℕ → List ℕ
unlinked x d a b counts = set (set counts a (get_or counts a 0 - share x d a b)) b (get_or counts b 0 - share x d b a)

-- the counts are those of a graph that becomes g when the edges come in
pub record AwaitsEdges (g : GraphShape) (x own below : List ℕ) (es : List Pair) : Type 0 where
  pub before : GraphShape
  pub addable : CanAdd before es
  pub becomes : with_edges before es ≡ g
  pub counted : IsAdjacency before x own below

-- the counts are those of a graph that becomes g when the edges leave
pub record LosesEdges (g : GraphShape) (x own below : List ℕ) (es : List Pair) : Type 0 where
  pub before : GraphShape
  pub removable : CanRemove before es
  pub becomes : without_edges before es ≡ g
  pub counted : IsAdjacency before x own below
