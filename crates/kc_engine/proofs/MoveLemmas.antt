-- What is known of the moves of a phase and of its edges, where the graph has as many vertices after it as before.
use Rattle.std.proofs.Common.{ℕ, ◌≤◌, ◌<◌, ◌≡◌, List, length, ap, sym, ◌∙◌, arith, subst}
use Rattle.std.specs.Prelude.{All}
use Rattle.kc_graph.specs.Shape.{Pair, EdgesFrom}
use Rattle.kc_graph.proofs.lemmas.Changes.{inside_from_ascending}
use Rattle.kc_graph.proofs.lemmas.Counts.{count_below-le}
use Rattle.kc_levels.specs.declared.moves.Move.{Move}
use Rattle.kc_levels.specs.Moved.{is_moved, moved_count, moves_between}
use Rattle.kc_levels.proofs.lemmas.Moves.{length-moves_between, moves_own}

-- the ends of the edges are vertices
pub edges_inside : (n k : ℕ) (es : List Pair) → n ≡ k → EdgesFrom n 0 0 es → All (λ (e : Pair). e.1 < k) es
edges_inside n k es same up = subst (λ m. All (λ (e : Pair). e.1 < m) es) same (λ i d h. (inside_from_ascending n 0 0 es up i d h).1)

module _ (n k : ℕ) (x y : List ℕ) (ms : List Move) (same : n ≡ k) (are : ms ≡ moves_between n x y) where
  pub moves_again : ms ≡ moves_between k x y
  moves_again = are ∙ ap (λ m. moves_between m x y) same

  -- those who move are vertices
  pub moves_inside : All (λ (m : Move). m.vertex < k) ms
  moves_inside = subst (λ (ts : List Move). All (λ (m : Move). m.vertex < k) ts) (sym moves_again) (λ i d h. (moves_own k x y i d h).0)

  pub move_count : length ms ≡ moved_count k x y
  move_count = ap (λ (ts : List Move). length ts) moves_again ∙ length-moves_between k x y

  pub few_moves : length ms ≤ k
  few_moves = omega (arith, move_count, count_below-le k (is_moved x y))
