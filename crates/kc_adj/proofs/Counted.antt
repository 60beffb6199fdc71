-- Counts: how great they are, and what they are at first.
use Rattle.std.proofs.Common.{ℕ, ◌-◌, ◌≤◌, ◌<◌, ◌≡◌, Bool, true, leb, List, [], ◌∷◌, length, get_or, replicate, refl, sym, ◌∙◌, arith}
use Rattle.std.specs.Prelude.{count_by}
use Rattle.std.proofs.lemmas.Bool.{le-leb}
use Rattle.std.proofs.lemmas.List.{length-replicate, get_or-replicate}
use Rattle.kc_graph.specs.Shape.{GraphShape, IsGraph, neighbours_of}
use Rattle.kc_graph.specs.declared.limits.TheConstants.{MAX_VERTICES}
use Rattle.kc_graph.proofs.lemmas.Counts.{count_by-cons}
use Rattle.kc_levels.specs.LevelList.{at_least}
use Rattle.kc_levels.proofs.lemmas.AtLeast.{at_least-few}
use Rattle.kc_adj.specs.LeveledGraph.{IsCounted, IsAdjacency}

pub count-few : (g : GraphShape) (x : List ℕ) (d : ℕ) (counts : List ℕ) (v : ℕ) → IsGraph g → IsCounted g x d counts → v < g.vertices → get_or counts v 0 < g.vertices
count-few g x d counts v graph c h = omega (arith, c.values v h, at_least-few g x v (get_or x v 0 - d) graph h)

count_all : (p : ℕ → Bool) (ws : List ℕ) → ((w : ℕ) → p w ≡ true) → count_by p ws ≡ length ws
count_all p [] all = refl
count_all p (w ∷ ws) all = rw (count_by-cons p w ws, all w, count_all p ws all) (omega arith)

-- from level 0 on all neighbours count
pub at_least-zero : (g : GraphShape) (x : List ℕ) (v : ℕ) → at_least g x v 0 ≡ length (neighbours_of v g.edges)
unfolding at_least
at_least-zero g x v = count_all (λ w. leb 0 (get_or x w 0)) (neighbours_of v g.edges) (λ w. le-leb 0 (get_or x w 0) (omega arith))

no_edges : (n v l : ℕ) (x : List ℕ) → at_least (record { vertices = n; edges = [] }) x v l ≡ 0
unfolding at_least
no_edges n v l x = refl

counted_first : (n d : ℕ) → IsCounted (record { vertices = n; edges = [] }) (replicate n 0) d (replicate n 0)
counted_first n d = record {
  sized = length-replicate n 0;
  values = λ v h. get_or-replicate n v 0 0 h ∙ sym (no_edges n v (get_or (replicate n 0) v 0 - d) (replicate n 0));
}

pub adjacency_first : (n : ℕ) (g : GraphShape) (x own below : List ℕ) → n ≤ MAX_VERTICES → g ≡ record { vertices = n; edges = [] } → x ≡ replicate n 0 → own ≡ replicate n 0 → below ≡ replicate n 0 → IsAdjacency g x own below
adjacency_first n g x own below small a b c d =
    rw (a, b, c, d) (record { graph = tt; small = small; sized = length-replicate n 0; own_counts = counted_first n 0; below_counts = counted_first n 1 })
