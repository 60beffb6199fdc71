-- The trees of a forest over the moves are the groups, and the vertex of the root is the label.
use Rattle.std.proofs.Common.{ℕ, suc, zero, ◌≤◌, ◌<◌, ◌≡◌, inl, inr, Bool, true, false, ◌&&◌, ◌||◌, ltb, List, length, get_or, refl, ap, sym, ◌∙◌, arith, subst}
use Rattle.std.proofs.lemmas.Bool.{and_from, cases_Bool, cases_eq, cases_lt, or_left, or_right}
use Rattle.std.proofs.lemmas.Bool.Decides.{nat_tests}
use Rattle.std.proofs.lemmas.Grind.{same_number_lists, common_steps}
use Rattle.kc_graph.specs.Numbers.{RisesFrom, AllBelow, has_number}
use Rattle.kc_graph.specs.Shape.{GraphShape, Pair, IsGraph, joined, has_edge, with_edges}
use Rattle.kc_graph.proofs.lemmas.Numbers.{all_from_below, has_number_at, has_number_index, rises_in_order}
use Rattle.kc_graph.proofs.lemmas.Neighbours.{has_number-neighbours_of}
use Rattle.kc_graph.proofs.lemmas.Edges.{joined_comm}
use Rattle.kc_graph.proofs.lemmas.Changes.{vertices-with_edges, has_edge-with_edges}
use Rattle.kc_groups.specs.Links.{Path, AreLabels}
use Rattle.kc_groups.specs.private.Labels.{AreJoined}
use Rattle.kc_groups.specs.private.Forest.{AreGathered}
use Rattle.kc_groups.specs.private.Gathering.{in_rows, in_edges, AreLabelled}
use Rattle.kc_groups.proofs.LabelLaw.{labels_exist, labels_joined}

-- the links of the rows and of the phase's edges
abbrev pub all_links : GraphShape → List Pair → List ℕ → ℕ → ℕ → ℕ → Bool
all_links g edges vs m i j = in_rows g vs 0 m i j || in_edges edges vs i j

module _ (g : GraphShape) (edges : List Pair) (vs : List ℕ) where
  joined_all : (v w : ℕ) → joined v w (with_edges g edges).edges ≡ ((has_edge (v, w) edges || has_edge (v, w) g.edges) || (has_edge (w, v) edges || has_edge (w, v) g.edges))
  joined_all v w = rw (has_edge-with_edges (v, w) g edges, has_edge-with_edges (w, v) g edges) refl

  -- whether two movers are linked in the rows
  near_is : (i j : ℕ) → i < length vs → in_rows g vs 0 (length vs) i j ≡ (ltb j i && joined (get_or vs i 0) (get_or vs j 0) g.edges)
  near_is i j h = grind (arith, nat_tests, common_steps, has_number-neighbours_of)

  -- a link is an edge
  link_joined : (i j : ℕ) → i < length vs → all_links g edges vs (length vs) i j ≡ true → joined (get_or vs i 0) (get_or vs j 0) (with_edges g edges).edges ≡ true
  link_joined i j h e = grind (arith, nat_tests, common_steps, joined_all, near_is)

  module _ (parents : List ℕ) (a : AreGathered (length vs) (all_links g edges vs (length vs)) parents) where
    -- movers that share an edge have one root
    one_root : (i j : ℕ) → i < length vs → j < length vs → joined (get_or vs i 0) (get_or vs j 0) (with_edges g edges).edges ≡ true → get_or a.roots i 0 ≡ get_or a.roots j 0
    one_root i j hi hj e = which (has_edge (get_or vs i 0, get_or vs j 0) edges) refl (has_edge (get_or vs j 0, get_or vs i 0) edges) refl (sym (joined_all (get_or vs i 0) (get_or vs j 0)) ∙ e)
      where
        by_edge : (k l : ℕ) → k < length vs → l < length vs → in_edges edges vs k l ≡ true → get_or a.roots k 0 ≡ get_or a.roots l 0
        by_edge k l hk hl e = a.joined k l hk hl (or_right (in_rows g vs 0 (length vs) k l) (in_edges edges vs k l) e)

        by_row : (k l : ℕ) → k < length vs → l < length vs → l < k → joined (get_or vs k 0) (get_or vs l 0) g.edges ≡ true → get_or a.roots k 0 ≡ get_or a.roots l 0
        by_row k l hk hl lt e = a.joined k l hk hl (or_left (in_rows g vs 0 (length vs) k l) (in_edges edges vs k l) (near_is k l hk ∙ and_from (ltb l k) (joined (get_or vs k 0) (get_or vs l 0) g.edges) (grind (arith, nat_tests, lt)) e))

        rows : joined (get_or vs i 0) (get_or vs j 0) g.edges ≡ true → get_or a.roots i 0 ≡ get_or a.roots j 0
        rows e = elim (cases_eq i j) [
          | inl same ↦ ap (λ k. get_or a.roots k 0) same
          | inr ne ↦ elim (cases_lt j i) [
            | inl lt ↦ by_row i j hi hj lt e
            | inr ge ↦ sym (by_row j i hj hi (omega (arith, ge, ne)) (joined_comm (get_or vs j 0) (get_or vs i 0) g.edges ∙ e))
          ]
        ]

        which : (b : Bool) → has_edge (get_or vs i 0, get_or vs j 0) edges ≡ b → (c : Bool) → has_edge (get_or vs j 0, get_or vs i 0) edges ≡ c → ((b || has_edge (get_or vs i 0, get_or vs j 0) g.edges) || (c || has_edge (get_or vs j 0, get_or vs i 0) g.edges)) ≡ true → get_or a.roots i 0 ≡ get_or a.roots j 0
        which true eb c ec t = by_edge i j hi hj eb
        which false eb true ec t = sym (by_edge j i hj hi ec)
        which false eb false ec t = rows t

    module _ (rises : RisesFrom 0 vs) (below : AllBelow g.vertices vs) (graph : IsGraph (with_edges g edges)) where
      inside : (i : ℕ) → i < length vs → get_or vs i 0 < (with_edges g edges).vertices
      inside i h = rw (vertices-with_edges g edges) (all_from_below g.vertices vs below i 0 h)

      moves : (i : ℕ) → i < length vs → has_number (get_or vs i 0) vs ≡ true
      moves i h = has_number_at (get_or vs i 0) vs i h refl

      -- a path leads from a mover to one of the same root
      along : (w k i : ℕ) → i < length vs → Path (with_edges g edges) (λ v. has_number v vs) (get_or vs i 0) w k → (j : ℕ) × (j < length vs) × (get_or vs j 0 ≡ w) × (get_or a.roots j 0 ≡ get_or a.roots i 0)
      along w zero i h path = (i, h, path, refl)
      along w (suc k) i h path =
          let next = has_number_index path.0 vs path.1.to in
          let link : joined (get_or vs i 0) (get_or vs next.0 0) (with_edges g edges).edges ≡ true = ap (λ u. joined (get_or vs i 0) u (with_edges g edges).edges) next.2 ∙ path.1.edge in
          let rest = along w k next.0 next.1 (subst (λ u. Path (with_edges g edges) (λ v. has_number v vs) u w k) (sym next.2) path.2) in
          (rest.0, rest.1, rest.2, rest.3 ∙ sym (one_root i next.0 h next.1 link))

      module _ (labels : List ℕ) (are : AreLabels (with_edges g edges) (λ v. has_number v vs) labels) where
        one : AreJoined (with_edges g edges) (λ v. has_number v vs) labels
        one = labels_joined (with_edges g edges) (λ v. has_number v vs) labels graph are

        -- a mover and its root have one label
        root_label : (i : ℕ) → i < length vs → get_or labels (get_or vs (get_or a.roots i 0) 0) 0 ≡ get_or labels (get_or vs i 0) 0
        root_label i h =
            a.sound (λ k. get_or labels (get_or vs k 0) 0)
            (λ k l hk hl e. sym (one.one (get_or vs k 0) (get_or vs l 0) (inside k hk) (record { from = moves k hk; to = moves l hl; edge = link_joined k l hk e })))
            i h

        label_is : (i : ℕ) → i < length vs → get_or labels (get_or vs i 0) 0 ≡ get_or vs (get_or a.roots i 0) 0
        label_is i h =
            let own = are.label (get_or vs i 0) (inside i h) (moves i h) in
            let there = along (get_or labels (get_or vs i 0) 0) own.reached.0 i h own.reached.1 in
            let root : get_or a.roots i 0 < length vs = omega (arith, a.forest.low i (omega (arith, a.sized, h)), h) in
            let low : get_or labels (get_or vs (get_or a.roots i 0) 0) 0 ≤ get_or vs (get_or a.roots i 0) 0 = (are.label (get_or vs (get_or a.roots i 0) 0) (inside (get_or a.roots i 0) root) (moves (get_or a.roots i 0) root)).least (get_or vs (get_or a.roots i 0) 0) 0 refl in
            let first : get_or a.roots i 0 ≤ there.0 = omega (arith, a.forest.low there.0 (omega (arith, a.sized, there.1)), there.3) in
            let high : get_or vs (get_or a.roots i 0) 0 ≤ get_or vs there.0 0 = rises_in_order 0 vs (get_or a.roots i 0) there.0 rises first there.1 in
            omega (arith, root_label i h, low, high, there.2)

      -- a table with the vertex of its root at each mover has the labels
      pub labels_are : (table : List ℕ) → AreLabelled g.vertices vs a.roots table → AreLabels (with_edges g edges) (λ v. has_number v vs) table
      labels_are table t =
          let some = labels_exist (with_edges g edges) (λ v. has_number v vs) graph in
          let same : some.0 ≡ table = same_number_lists some.0 table (some.1.sized ∙ vertices-with_edges g edges ∙ sym t.sized) (λ v h. at some.0 some.1 v (omega (arith, h, some.1.sized, vertices-with_edges g edges))) in
          subst (λ ls. AreLabels (with_edges g edges) (λ v. has_number v vs) ls) same some.1
        where
          at : (labels : List ℕ) → AreLabels (with_edges g edges) (λ v. has_number v vs) labels → (v : ℕ) → v < g.vertices → get_or labels v 0 ≡ get_or table v 0
          at labels are v h = elim (cases_Bool (has_number v vs)) [
            | inl there ↦
                let place = has_number_index v vs there in
                ap (λ u. get_or labels u 0) (sym place.2) ∙ label_is labels are place.0 place.1 ∙ sym (t.at place.0 place.1) ∙ ap (λ u. get_or table u 0) place.2
            | inr out ↦ are.none v (rw (vertices-with_edges g edges) h) out ∙ vertices-with_edges g edges ∙ sym (t.none v h out)
          ]
