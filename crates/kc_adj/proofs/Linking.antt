-- What an edge changes in the counts of its ends.
use Rattle.std.proofs.Common.{ℕ, ◌+◌, ◌-◌, ◌≤◌, ◌<◌, ◌≡◌, ◌≢◌, inl, inr, true, false, cond, leb, List, ◌∷◌, length, get_or, set, drop, refl, ap, sym, ◌∙◌, arith}
use Rattle.std.specs.Prelude.{count_by}
use Rattle.std.proofs.lemmas.Bool.{cases_eq}
use Rattle.std.proofs.lemmas.List.{length-set, get_or-set_same, get_or-set_other, drop_more}
use Rattle.kc_graph.specs.Numbers.{has_number}
use Rattle.kc_graph.specs.Shape.{GraphShape, Pair, IsGraph, neighbours_of, has_edge, with_edge, without_edge}
use Rattle.kc_graph.proofs.lemmas.Changes.{is_graph-with_edge, is_graph-without_edge}
use Rattle.kc_graph.proofs.lemmas.Counts.{count_by-put, count_by-without}
use Rattle.kc_graph.proofs.lemmas.Edges.{joined_comm, joined_in_order}
use Rattle.kc_graph.proofs.lemmas.Neighbours.{has_number-neighbours_of, neighbours_rise, neighbours_of_insert_low, neighbours_of_insert_high, neighbours_of_insert_other, neighbours_of_remove_low, neighbours_of_remove_high, neighbours_of_remove_other}
use Rattle.kc_levels.specs.LevelList.{at_least}
use Rattle.kc_adj.specs.LeveledGraph.{LeveledGraph, IsCounted, IsAdjacency}
use Rattle.kc_adj.specs.private.Linking.{share, linked, unlinked, AwaitsEdges, LosesEdges}
use Rattle.kc_adj.proofs.Counted.{count-few}

-- what holds of the numbers at a and b after writes there, and of the old number elsewhere, holds at each place
changed_both : (counts : List ℕ) (a b m n : ℕ) → a < length counts → b < length counts → a < b → (P : ℕ → ℕ → Type 0) (v : ℕ) → P a m → P b n → (v ≢ a → v ≢ b → P v (get_or counts v 0)) → P v (get_or (set (set counts a m) b n) v 0)
changed_both counts a b m n ha hb order P v low high other =
    elim (cases_eq v b) [
      | inl e ↦ rw (e, get_or-set_same (set counts a m) b n 0 (rw length-set hb)) high
      | inr nb ↦ rw (get_or-set_other (set counts a m) b v n 0 nb) (elim (cases_eq v a) [
        | inl e ↦ rw (e, get_or-set_same counts a m 0 ha) low
        | inr na ↦ rw (get_or-set_other counts a v m 0 na) (other na nb)
      ])
    ]

module _ (g : GraphShape) (x : List ℕ) (a b : ℕ) (graph : IsGraph g) (order : a < b) (inside : b < g.vertices) where
  ends_low : has_number b (neighbours_of a g.edges) ≡ has_edge (a, b) g.edges
  ends_low = has_number-neighbours_of a b g.edges ∙ joined_in_order g.vertices 0 0 a b g.edges graph (omega (arith, order))

  ends_high : has_number a (neighbours_of b g.edges) ≡ has_edge (a, b) g.edges
  ends_high = has_number-neighbours_of b a g.edges ∙ joined_comm b a g.edges ∙ joined_in_order g.vertices 0 0 a b g.edges graph (omega (arith, order))

  module _ (absent : has_edge (a, b) g.edges ≡ false) where
    link_low : (j : ℕ) → at_least (with_edge g (a, b)) x a j ≡ cond (leb j (get_or x b 0)) 1 0 + at_least g x a j
    unfolding at_least
    link_low j =
        ap (λ ws. count_by (λ w. leb j (get_or x w 0)) ws) (neighbours_of_insert_low g.vertices 0 0 a b g.edges order graph)
        ∙ count_by-put (λ w. leb j (get_or x w 0)) b (neighbours_of a g.edges) (ends_low ∙ absent)

    link_high : (j : ℕ) → at_least (with_edge g (a, b)) x b j ≡ cond (leb j (get_or x a 0)) 1 0 + at_least g x b j
    unfolding at_least
    link_high j =
        ap (λ ws. count_by (λ w. leb j (get_or x w 0)) ws) (neighbours_of_insert_high g.vertices 0 0 a b g.edges order graph)
        ∙ count_by-put (λ w. leb j (get_or x w 0)) a (neighbours_of b g.edges) (ends_high ∙ absent)

    link_other : (v j : ℕ) → v ≢ a → v ≢ b → at_least (with_edge g (a, b)) x v j ≡ at_least g x v j
    unfolding at_least
    link_other v j na nb = ap (λ ws. count_by (λ w. leb j (get_or x w 0)) ws) (neighbours_of_insert_other v a b g.edges na nb)

    more : (m c k y : ℕ) → m ≡ c → k ≡ y + c → m + y ≡ k
    more m c k y e f = omega arith

    pub counted_linked : (d : ℕ) (counts : List ℕ) → IsCounted g x d counts → IsCounted (with_edge g (a, b)) x d (linked x d a b counts)
    counted_linked d counts c = record {
      sized = length-set (set counts a (get_or counts a 0 + share x d a b)) b (get_or counts b 0 + share x d b a) ∙ length-set counts a (get_or counts a 0 + share x d a b) ∙ c.sized;
      values = λ v hv. changed_both counts a b _ _ (omega (arith, c.sized)) (omega (arith, c.sized)) order (λ u m. m ≡ at_least (with_edge g (a, b)) x u (get_or x u 0 - d)) v
          (more _ _ _ _ (c.values a (omega arith)) (link_low (get_or x a 0 - d)))
          (more _ _ _ _ (c.values b inside) (link_high (get_or x b 0 - d)))
          (λ na nb. c.values v hv ∙ sym (link_other v (get_or x v 0 - d) na nb));
    }

  module _ (present : has_edge (a, b) g.edges ≡ true) where
    unlink_low : (j : ℕ) → cond (leb j (get_or x b 0)) 1 0 + at_least (without_edge g (a, b)) x a j ≡ at_least g x a j
    unfolding at_least
    unlink_low j =
        ap (λ ws. cond (leb j (get_or x b 0)) 1 0 + count_by (λ w. leb j (get_or x w 0)) ws) (neighbours_of_remove_low g.vertices 0 0 a b g.edges order graph)
        ∙ count_by-without (λ w. leb j (get_or x w 0)) 0 b (neighbours_of a g.edges) (neighbours_rise g.vertices a g.edges graph) (ends_low ∙ present)

    unlink_high : (j : ℕ) → cond (leb j (get_or x a 0)) 1 0 + at_least (without_edge g (a, b)) x b j ≡ at_least g x b j
    unfolding at_least
    unlink_high j =
        ap (λ ws. cond (leb j (get_or x a 0)) 1 0 + count_by (λ w. leb j (get_or x w 0)) ws) (neighbours_of_remove_high g.vertices 0 0 a b g.edges order graph)
        ∙ count_by-without (λ w. leb j (get_or x w 0)) 0 a (neighbours_of b g.edges) (neighbours_rise g.vertices b g.edges graph) (ends_high ∙ present)

    unlink_other : (v j : ℕ) → v ≢ a → v ≢ b → at_least (without_edge g (a, b)) x v j ≡ at_least g x v j
    unfolding at_least
    unlink_other v j na nb = ap (λ ws. count_by (λ w. leb j (get_or x w 0)) ws) (neighbours_of_remove_other v a b g.edges na nb)

    fewer : (m c k y : ℕ) → m ≡ c → y + k ≡ c → m - y ≡ k
    fewer m c k y e f = omega arith

    pub shares : (d : ℕ) (counts : List ℕ) → IsCounted g x d counts → (share x d a b ≤ get_or counts a 0) × (share x d b a ≤ get_or counts b 0)
    shares d counts c = (omega (arith, c.values a (omega arith), unlink_low (get_or x a 0 - d)), omega (arith, c.values b inside, unlink_high (get_or x b 0 - d)))

    pub counted_unlinked : (d : ℕ) (counts : List ℕ) → IsCounted g x d counts → IsCounted (without_edge g (a, b)) x d (unlinked x d a b counts)
    counted_unlinked d counts c = record {
      sized = length-set (set counts a (get_or counts a 0 - share x d a b)) b (get_or counts b 0 - share x d b a) ∙ length-set counts a (get_or counts a 0 - share x d a b) ∙ c.sized;
      values = λ v hv. changed_both counts a b _ _ (omega (arith, c.sized)) (omega (arith, c.sized)) order (λ u m. m ≡ at_least (without_edge g (a, b)) x u (get_or x u 0 - d)) v
          (fewer _ _ _ _ (c.values a (omega arith)) (unlink_low (get_or x a 0 - d)))
          (fewer _ _ _ _ (c.values b inside) (unlink_high (get_or x b 0 - d)))
          (λ na nb. c.values v hv ∙ sym (unlink_other v (get_or x v 0 - d) na nb));
    }

-- the same as clauses give it: an edge e, and the model of the fields
module _ (g : GraphShape) (x own below : List ℕ) (a b : ℕ) (self : LeveledGraph) (e : Pair) (e_is : (a, b) ≡ e) (self_is : record { graph = g; levels = x } ≡ self) (order : a < b) (within : e.1 < self.graph.vertices) (adj : IsAdjacency g x own below) where
  inside : b < g.vertices
  inside = rw (← self_is, ← e_is) at within

  pub few_at : (d : ℕ) (counts : List ℕ) → IsCounted g x d counts → (get_or counts a 0 < 2147483648) × (get_or counts b 0 < 2147483648)
  few_at d counts c =
      let few : (v : ℕ) → v < g.vertices → get_or counts v 0 < g.vertices = λ v h. count-few g x d counts v adj.graph c h in
      (omega (arith, few a (omega (arith, inside, order)), adj.small), omega (arith, few b inside, adj.small))

  pub adjacency_linked : has_edge e self.graph.edges ≡ false → (h : GraphShape) (own' below' : List ℕ) → h ≡ with_edge g (a, b) → own' ≡ linked x 0 a b own → below' ≡ linked x 1 a b below → IsAdjacency h x own' below'
  adjacency_linked absent h own' below' is is1 is2 =
      let absent' : has_edge (a, b) g.edges ≡ false = rw (← self_is, ← e_is) at absent in
      rw (is, is1, is2) (record {
        graph = is_graph-with_edge g (a, b) adj.graph order inside;
        small = adj.small;
        sized = adj.sized;
        own_counts = counted_linked g x a b adj.graph order inside absent' 0 own adj.own_counts;
        below_counts = counted_linked g x a b adj.graph order inside absent' 1 below adj.below_counts;
      })

  module _ (present : has_edge e self.graph.edges ≡ true) where
    there : has_edge (a, b) g.edges ≡ true
    there = rw (← self_is, ← e_is) at present

    pub shares_at : (d : ℕ) (counts : List ℕ) → IsCounted g x d counts → (share x d a b ≤ get_or counts a 0) × (share x d b a ≤ get_or counts b 0)
    shares_at d counts c = shares g x a b adj.graph order inside there d counts c

    pub adjacency_unlinked : (h : GraphShape) (own' below' : List ℕ) → h ≡ without_edge g (a, b) → own' ≡ unlinked x 0 a b own → below' ≡ unlinked x 1 a b below → IsAdjacency h x own' below'
    adjacency_unlinked h own' below' is is1 is2 =
        rw (is, is1, is2) (record {
          graph = is_graph-without_edge g (a, b) adj.graph;
          small = adj.small;
          sized = adj.sized;
          own_counts = counted_unlinked g x a b adj.graph order inside there 0 own adj.own_counts;
          below_counts = counted_unlinked g x a b adj.graph order inside there 1 below adj.below_counts;
        })

-- all edges come in, or leave: the step of a loop over them at place i
module _ (g : GraphShape) (x own below : List ℕ) (es : List Pair) (i : ℕ) (e : Pair) (at : i < length es) (e_is : e ≡ get_or es i (0, 0)) (order : e.0 < e.1) where
  rest_is : drop i es ≡ e ∷ drop (i + 1) es
  rest_is = drop_more es i (0, 0) at ∙ ap (λ (f : Pair). f ∷ drop (i + 1) es) (sym e_is)

  module _ (s' : AwaitsEdges g x own below (drop i es)) where
    s : AwaitsEdges g x own below (e ∷ drop (i + 1) es)
    s = rw rest_is at s'

    awaited_few : (d : ℕ) (counts : List ℕ) → IsCounted s.before x d counts → (get_or counts e.0 0 < 2147483648) × (get_or counts e.1 0 < 2147483648)
    awaited_few d counts c = few_at s.before x own below e.0 e.1 (record { graph = s.before; levels = x }) e refl refl order s.addable.0 s.counted d counts c

    pub awaited_own : (get_or own e.0 0 < 2147483648) × (get_or own e.1 0 < 2147483648)
    awaited_own = awaited_few 0 own s.counted.own_counts

    pub awaited_below : (get_or below e.0 0 < 2147483648) × (get_or below e.1 0 < 2147483648)
    awaited_below = awaited_few 1 below s.counted.below_counts

    pub awaiting_next : (own' below' : List ℕ) → own' ≡ linked x 0 e.0 e.1 own → below' ≡ linked x 1 e.0 e.1 below → AwaitsEdges g x own' below' (drop (i + 1) es)
    awaiting_next own' below' is1 is2 = record {
      before = with_edge s.before e;
      addable = s.addable.3;
      becomes = s.becomes;
      counted = rw (is1, is2) (record {
        graph = is_graph-with_edge s.before e s.counted.graph order s.addable.0;
        small = s.counted.small;
        sized = s.counted.sized;
        own_counts = counted_linked s.before x e.0 e.1 s.counted.graph order s.addable.0 s.addable.1 0 own s.counted.own_counts;
        below_counts = counted_linked s.before x e.0 e.1 s.counted.graph order s.addable.0 s.addable.1 1 below s.counted.below_counts;
      });
    }

  module _ (s' : LosesEdges g x own below (drop i es)) where
    t : LosesEdges g x own below (e ∷ drop (i + 1) es)
    t = rw rest_is at s'

    pub lost_own : (share x 0 e.0 e.1 ≤ get_or own e.0 0) × (share x 0 e.1 e.0 ≤ get_or own e.1 0)
    lost_own = shares t.before x e.0 e.1 t.counted.graph order t.removable.0 t.removable.1 0 own t.counted.own_counts

    pub lost_below : (share x 1 e.0 e.1 ≤ get_or below e.0 0) × (share x 1 e.1 e.0 ≤ get_or below e.1 0)
    lost_below = shares t.before x e.0 e.1 t.counted.graph order t.removable.0 t.removable.1 1 below t.counted.below_counts

    pub losing_next : (own' below' : List ℕ) → own' ≡ unlinked x 0 e.0 e.1 own → below' ≡ unlinked x 1 e.0 e.1 below → LosesEdges g x own' below' (drop (i + 1) es)
    losing_next own' below' is1 is2 = record {
      before = without_edge t.before e;
      removable = t.removable.2;
      becomes = t.becomes;
      counted = rw (is1, is2) (record {
        graph = is_graph-without_edge t.before e t.counted.graph;
        small = t.counted.small;
        sized = t.counted.sized;
        own_counts = counted_unlinked t.before x e.0 e.1 t.counted.graph order t.removable.0 t.removable.1 0 own t.counted.own_counts;
        below_counts = counted_unlinked t.before x e.0 e.1 t.counted.graph order t.removable.0 t.removable.1 1 below t.counted.below_counts;
      });
    }

-- the levels and the counts have an item for each vertex of a graph with as many vertices
pub sized_as : (g before : GraphShape) (x own below : List ℕ) → IsAdjacency before x own below → g.vertices ≡ before.vertices → (length x ≡ g.vertices) × (length own ≡ g.vertices) × (length below ≡ g.vertices)
sized_as g before x own below adj same = (adj.sized ∙ sym same, adj.own_counts.sized ∙ sym same, adj.below_counts.sized ∙ sym same)
