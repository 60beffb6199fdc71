-- Counts that follow those of the graph where edges came in or left and vertices moved.
use Rattle.std.proofs.Common.{ℕ, ◌-◌, ◌<◌, ◌≡◌, ◌≢◌, inl, inr, true, false, List, [], ◌∷◌, length, get_or, leb, refl, ap, sym, ◌∙◌, arith, subst}
use Rattle.std.specs.Prelude.{count_by}
use Rattle.std.specs.List.{All}
use Rattle.std.proofs.lemmas.Bool.{cases_lt, true≢false}
use Rattle.std.proofs.lemmas.List.{get_or_past}
use Rattle.std.proofs.lemmas.List.Elements.{All-tail}
use Rattle.std.proofs.lemmas.Bool.Decides.{nat_tests}
use Rattle.kc_graph.specs.Numbers.{has_number}
use Rattle.kc_graph.specs.Shape.{GraphShape, Pair, neighbours_of, with_edge, without_edge, with_edges, without_edges}
use Rattle.kc_graph.proofs.lemmas.Neighbours.{neighbours_both, neighbours_of_insert_other, neighbours_of_remove_other}
use Rattle.kc_graph.proofs.lemmas.Changes.{vertices-without_edges}
use Rattle.kc_levels.specs.declared.moves.Move.{Move}
use Rattle.kc_levels.specs.LevelList.{at_least}
use Rattle.kc_levels.specs.Moved.{moves_between}
use Rattle.kc_levels.specs.private.Following.{IsCopied}
use Rattle.kc_levels.proofs.lemmas.Writes.{copied_then}
use Rattle.kc_levels.proofs.lemmas.Moves.{still_here}
use Rattle.kc_adj.specs.LeveledGraph.{IsCounted}
use Rattle.kc_insert.proofs.Tests.{count_agree}

-- edges elsewhere don't change the neighbours
pub neighbours_added : (v : ℕ) (g : GraphShape) (es : List Pair) → All (λ e. (v ≢ e.0) × (v ≢ e.1)) es → neighbours_of v (with_edges g es).edges ≡ neighbours_of v g.edges
neighbours_added v g [] apart = refl
neighbours_added v g (e ∷ es) apart =
    let here = apart 0 e (omega arith) in
    neighbours_added v (with_edge g e) es (All-tail (λ e. (v ≢ e.0) × (v ≢ e.1)) e es apart) ∙ neighbours_of_insert_other v e.0 e.1 g.edges here.0 here.1

pub neighbours_removed : (v : ℕ) (g : GraphShape) (es : List Pair) → All (λ e. (v ≢ e.0) × (v ≢ e.1)) es → neighbours_of v (without_edges g es).edges ≡ neighbours_of v g.edges
neighbours_removed v g [] apart = refl
neighbours_removed v g (e ∷ es) apart =
    let here = apart 0 e (omega arith) in
    neighbours_removed v (without_edge g e) es (All-tail (λ e. (v ≢ e.0) × (v ≢ e.1)) e es apart) ∙ neighbours_of_remove_other v e.0 e.1 g.edges here.0 here.1

-- counts that were copied where the graph or the levels changed are those of the new graph and levels
pub counted_copied : (g h : GraphShape) (x y old fresh new : List ℕ) (spared : ℕ → Type 0) → h.vertices ≡ g.vertices → IsCounted g x 0 old → IsCounted h y 0 fresh → IsCopied fresh old new spared → ((v : ℕ) → v < g.vertices → spared v → at_least h y v (get_or y v 0 - 0) ≡ at_least g x v (get_or x v 0 - 0)) → IsCounted h y 0 new
counted_copied g h x y old fresh new spared same c d s kept = record {
  sized = s.sized ∙ c.sized ∙ sym same;
  values = λ v at. grind (arith, nat_tests, s.each, d.values, c.values);
}

-- after edges came in
pub counted_added : (g h : GraphShape) (x y old fresh new : List ℕ) (es : List Pair) → h ≡ with_edges g es → h.vertices ≡ g.vertices → y ≡ x → IsCounted g x 0 old → IsCounted h y 0 fresh → IsCopied fresh old new (λ v. All (λ e. (v ≢ e.0) × (v ≢ e.1)) es) → IsCounted h y 0 new
unfolding at_least
counted_added g h x y old fresh new es is same levels c d s = grind (arith, nat_tests, counted_copied, neighbours_added)

-- counts that were copied where edges left, and where somebody moved and beside
pub counted_followed : (n : ℕ) (g h : GraphShape) (x y old mid fresh new : List ℕ) (es : List Pair) (moves : List Move) → g.vertices ≡ n → length x ≡ n → length y ≡ n → h ≡ without_edges g es → moves ≡ moves_between n x y → IsCounted g x 0 old → IsCounted h y 0 fresh → IsCopied fresh old mid (λ v. All (λ (e : Pair). (v ≢ e.0) × (v ≢ e.1)) es) → IsCopied fresh mid new (λ v. All (λ (m : Move). (v ≢ m.vertex) × (has_number v (neighbours_of m.vertex h.edges) ≡ false)) moves) → IsCounted h y 0 new
unfolding at_least
counted_followed n g h x y old mid fresh new es moves size long wide is moved c d s t =
    counted_copied g h x y old fresh new (λ v. Ends v × Rows v) (ap (λ (k : GraphShape). k.vertices) is ∙ vertices-without_edges g es) c d
    (copied_then fresh old mid new Ends Rows (λ v. Ends v × Rows v) s t (λ v p q. (p, q)))
    (λ v within both.
    let near = ap (λ (k : GraphShape). neighbours_of v k.edges) is ∙ neighbours_removed v g es both.0 in
    let here : get_or x v 0 ≡ get_or y v 0 = still_here n x y v (omega (arith, within, size)) (subst (λ ms. All (λ (m : Move). v ≢ m.vertex) ms) moved (λ i e at. (both.1 i e at).0)) in
    ap (λ k. count_by (λ w. leb (k - 0) (get_or y w 0)) (neighbours_of v h.edges)) (sym here)
    ∙ count_agree (λ w. leb (get_or x v 0 - 0) (get_or y w 0)) (λ w. leb (get_or x v 0 - 0) (get_or x w 0)) (neighbours_of v h.edges) (λ w beside. ap (λ k. leb (get_or x v 0 - 0) k) (sym (beside_still v w both.1 beside)))
    ∙ ap (λ ws. count_by (λ w. leb (get_or x v 0 - 0) (get_or x w 0)) ws) near)
  where
    Ends : ℕ → Type 0
    Ends v = All (λ (e : Pair). (v ≢ e.0) × (v ≢ e.1)) es

    Rows : ℕ → Type 0
    Rows v = All (λ (m : Move). (v ≢ m.vertex) × (has_number v (neighbours_of m.vertex h.edges) ≡ false)) moves

    -- a neighbour of a vertex that is spared didn't move
    beside_still : (v w : ℕ) → Rows v → has_number w (neighbours_of v h.edges) ≡ true → get_or x w 0 ≡ get_or y w 0
    beside_still v w rows beside = elim (cases_lt w n) [
      | inr past ↦ get_or_past x w 0 (omega (arith, past, long)) ∙ sym (get_or_past y w 0 (omega (arith, past, wide)))
      | inl inside ↦ still_here n x y w inside (subst (λ ms. All (λ (m : Move). w ≢ m.vertex) ms) moved (λ i e at q.
          true≢false (sym beside ∙ neighbours_both v w h.edges ∙ ap (λ u. has_number v (neighbours_of u h.edges)) q ∙ (rows i e at).1)))
    ]
