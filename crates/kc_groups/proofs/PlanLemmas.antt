-- What each step of a plan leaves for the next, over plain lists.
use Rattle.std.proofs.Common.{ℕ, ◌<◌, ◌≡◌, inl, inr, Bool, true, false, not, eqb, ltb, ◌&&◌, ◌||◌, List, [], length, get_or, map, filter, ap, sym, ◌∙◌, arith, subst}
use Rattle.std.specs.Prelude.{None, All}
use Rattle.std.proofs.lemmas.Bool.{cases_lt}
use Rattle.std.proofs.lemmas.Bool.Decides.{nat_tests}
use Rattle.std.proofs.lemmas.List.{length-map, get_or-map, get_or_past}
use Rattle.std.proofs.lemmas.Grind.{common_steps}
use Rattle.kc_graph.specs.Numbers.{has_number}
use Rattle.kc_graph.specs.Shape.{GraphShape, Pair, IsGraph, EdgesFrom, with_edges}
use Rattle.kc_graph.specs.Changes.{AllPresent}
use Rattle.kc_graph.proofs.lemmas.Numbers.{has_number_at, all_from_below}
use Rattle.kc_graph.proofs.lemmas.Changes.{vertices-with_edges, insertions_keep_graph, inside_from_ascending}
use Rattle.kc_levels.specs.declared.moves.Move.{Move}
use Rattle.kc_levels.specs.Moved.{is_moved, moved_below, moves_between}
use Rattle.kc_levels.proofs.lemmas.Moves.{vertices_between, moved_rise, has_number-moved_below}
use Rattle.kc_history.specs.declared.entries.Entry.{Entry}
use Rattle.kc_groups.specs.Links.{AreLabels}
use Rattle.kc_groups.specs.private.Labels.{AreJoined, AreRooted, IsLabelled}
use Rattle.kc_groups.specs.declared.plans.Phase.{Phase}
use Rattle.kc_groups.specs.Entries.{labels_below, moves_below, group_entry, AreEntries}
use Rattle.kc_groups.specs.private.Forest.{IsForest, AreGathered}
use Rattle.kc_groups.specs.Gathering.{vertices, AreInOrder, AreMovesOf}
use Rattle.kc_groups.specs.private.Gathering.{is_mover, in_rows, in_edges, AreLabelled, HaveNone}
use Rattle.kc_groups.specs.private.Dealing.{empty_entry, with_moves, with_edges as dealt_edges, ArePlaces, AreDealt, IsPlacedEdge, is_unplaced}
use Rattle.kc_groups.proofs.LabelLaw.{labels_joined}
use Rattle.kc_groups.proofs.WorkLemmas.{many}
use Rattle.kc_groups.proofs.GroupLemmas.{all_links, labels_are}
use Rattle.kc_groups.proofs.EndLemmas.{IsJoined, edge_joined, rooted}
use Rattle.kc_groups.proofs.DealingLemmas.{groups_are, quiet_are, edge_placed, stays, has_place, moves_placed}

-- the vertices of moves between two lists of levels are those that move
pub movers_are : (n : ℕ) (x y : List ℕ) (ms : List Move) → AreMovesOf n x y ms → is_mover ms ≡ is_moved x y
movers_are n x y ms are = λ i v. at v i
  where
    inside : (v : ℕ) → (ltb v n && is_moved x y v) ≡ is_moved x y v
    inside v = elim (cases_lt v n) [
      | inl lt ↦ yes (ltb v n) (is_moved x y v) (grind (arith, nat_tests, lt))
      | inr ge ↦
          let first : get_or x v 0 ≡ 0 = get_or_past x v 0 (omega (arith, are.before, ge)) in
          let second : get_or y v 0 ≡ 0 = get_or_past y v 0 (omega (arith, are.after, ge)) in
          no (ltb v n) (is_moved x y v) (grind (arith, nat_tests, first, second))
    ]
      where
        yes : (a b : Bool) → a ≡ true → (a && b) ≡ b
        yes a b e = grind (arith, nat_tests, e)

        no : (a b : Bool) → b ≡ false → (a && b) ≡ b
        no a b e = grind (arith, nat_tests, e)

    at : (v : ℕ) → is_mover ms v ≡ is_moved x y v
    at v = ap (has_number v) (ap vertices are.moves ∙ vertices_between n x y) ∙ has_number-moved_below (is_moved x y) n v ∙ inside v

-- moves between two lists of levels are in order
pub between_in_order : (n : ℕ) (x y : List ℕ) (ms : List Move) → ms ≡ moves_between n x y → AreInOrder n ms
between_in_order n x y ms is =
    let movers : vertices ms ≡ moved_below (is_moved x y) n = ap vertices is ∙ vertices_between n x y in
    let up = moved_rise (is_moved x y) n in
    record { rises = rw movers up.0; below = rw movers up.1 }

module _ (g : GraphShape) (gone : List Pair) (ms : List Move) (graph : IsGraph g) (order : AreInOrder g.vertices ms) (up : EdgesFrom g.vertices 0 0 gone) (parents labels : List ℕ) where
  all_graph : IsGraph (with_edges g gone)
  all_graph = insertions_keep_graph g gone graph (inside_from_ascending g.vertices 0 0 gone up)

  -- the labels of all moves
  pub labels_here : AreGathered (length ms) (λ i j. in_rows g (vertices ms) 0 (length ms) i j || in_edges gone (vertices ms) i j) parents → ((roots : List ℕ) → IsForest parents roots → AreLabelled g.vertices (vertices ms) roots labels) → AreLabels (with_edges g gone) (is_mover ms) labels
  labels_here gathered table =
      let known : AreGathered (length (vertices ms)) (all_links g gone (vertices ms) (length (vertices ms))) parents = rw (many ms) gathered in
      labels_are g gone (vertices ms) parents known order.rises order.below all_graph labels (table known.roots known.forest)

  module _ (are : AreLabels (with_edges g gone) (is_mover ms) labels) where
    one : AreJoined (with_edges g gone) (is_mover ms) labels
    one = labels_joined (with_edges g gone) (is_mover ms) labels all_graph are

    pub many_labels : length labels ≡ g.vertices
    many_labels = are.sized ∙ vertices-with_edges g gone

    pub rooted_here : AreRooted (length labels) (is_mover ms) labels
    rooted_here = rw (are.sized) (rooted (with_edges g gone) (is_mover ms) labels are one)

    module _ (phase : ℕ) (add : Bool) (places : List ℕ) (opened : List Entry) (open_is : opened ≡ map (empty_entry phase add) (labels_below labels (length labels))) (p : ArePlaces (length labels) labels (labels_below labels (length labels)) places (length labels)) where
      long : length opened ≡ length (labels_below labels (length labels))
      long = ap (λ (es : List Entry). length es) open_is ∙ length-map (labels_below labels (length labels)) (empty_entry phase add)

      pub placed_moves : All (λ (m : Move). (m.vertex < length places) × (get_or places m.vertex 0 < length opened)) ms
      placed_moves i d h =
          let inside : i < length (vertices ms) = omega (arith, many ms, h) in
          let is : get_or (vertices ms) i 0 ≡ (get_or ms i d).vertex = get_or-map (λ (m : Move). m.vertex) ms i d 0 h in
          let low : (get_or ms i d).vertex < length labels = omega (arith, is, all_from_below g.vertices (vertices ms) order.below i 0 inside, many_labels) in
          let place = has_place (length labels) labels (labels_below labels (length labels)) places p (is_mover ms) rooted_here (get_or ms i d).vertex low (has_number_at (get_or ms i d).vertex (vertices ms) i inside is) in
          (omega (arith, low, p.sized), omega (arith, place, long))

      empty_at : (k : ℕ) (d : Entry) → k < length opened → get_or opened k d ≡ empty_entry phase add (get_or (labels_below labels (length labels)) k 0)
      empty_at k d h = ap (λ (es : List Entry). get_or es k d) open_is ∙ get_or-map (empty_entry phase add) (labels_below labels (length labels)) k 0 d (omega (arith, long, h))

      pub no_moves : All (λ (e : Entry). e.moves ≡ []) opened
      no_moves k d h = ap (λ (e : Entry). e.moves) (empty_at k d h)

      -- no vertex has a place but the movers
      pub none_else : HaveNone (length places) (vertices ms) places
      none_else v h out = stays (length labels) labels (labels_below labels (length labels)) places p (is_mover ms) rooted_here v (omega (arith, h, p.sized)) out ∙ sym p.sized

      module _ (dealt : List Entry) (m : AreDealt (with_moves places ms) opened dealt) where
        pub no_edges : All (λ (e : Entry). e.edges ≡ []) dealt
        no_edges k d h = grind (arith, nat_tests, common_steps, empty_at, m.sized, m.each)

        module _ (edges : List Pair) (there : AllPresent (with_edges g gone) edges) where
          joined_at : (k : ℕ) (d : Pair) → k < length edges → IsJoined (length labels) (is_mover ms) labels (get_or edges k d)
          joined_at k d h = rw (are.sized) (edge_joined (with_edges g gone) (is_mover ms) labels (get_or edges k d) all_graph one (there k d h))

          pub placed_edges : All (IsPlacedEdge (length places) (length dealt) places) edges
          placed_edges k d h = rw (m.sized ∙ long, p.sized) (edge_placed (length labels) labels (labels_below labels (length labels)) places p (is_mover ms) rooted_here (get_or edges k d) (joined_at k d h))

          pub entries_are : (made : List Entry) (quiet : List Pair) → AreDealt (dealt_edges places edges) dealt made → quiet ≡ filter (is_unplaced (length places) places) edges → (x y : List ℕ) → AreMovesOf g.vertices x y ms → AreEntries phase add edges x y (with_edges g gone) (record { quiet = record { phase = phase; label = None; add = add; moves = []; edges = quiet }; groups = made })
          entries_are made quiet e q x y moves =
              let n = length labels in
              let roots = labels_below labels (length labels) in
              let same = movers_are g.vertices x y ms moves in
              let inside : All (λ (e : Pair). (e.0 < length labels) × (e.1 < length labels)) edges = λ k d h. let j = joined_at k d h in (omega (arith, j.order, j.inside), j.inside) in
              let between : ms ≡ moves_between (length labels) x y = moves.moves ∙ ap (λ k. moves_between k x y) (sym many_labels) in
              let below : (i : ℕ) → i < length (labels_below labels (length labels)) → filter (λ (m : Move). eqb (get_or places m.vertex 0) i) ms ≡ moves_below places x y i (length labels) =
              λ i h.
              ap (filter (λ (m : Move). eqb (get_or places m.vertex 0) i)) between
              ∙ moves_placed places x y i n (λ v lt still.
              let none = stays n labels roots places p (is_mover ms) rooted_here v lt (ap (λ f. f v) same ∙ still) in
              let apart : i < get_or places v 0 = omega (arith, none, h, p.few) in
              grind (arith, nat_tests, apart)) in
              let groups : made ≡ map (group_entry phase add edges x y labels (length labels)) (labels_below labels (length labels)) = groups_are n labels roots places p phase add x y edges opened dealt made inside open_is ms below m e in
              record {
                labels = labels;
                are_labels = subst (λ f. AreLabels (with_edges g gone) f labels) same are;
                quiet =
                    ap (λ ps. record { phase = phase; label = None; add = add; moves = []; edges = ps })
                    (q ∙ ap (λ k. filter (is_unplaced k places) edges) p.sized ∙ quiet_are n labels roots places p (is_mover ms) rooted_here edges inside ∙ ap (λ (f : ℕ → Bool). filter (λ (e : Pair). not (f e.0) && not (f e.1)) edges) same);
                groups = rw (are.sized) at groups;
              }

-- a phase with the labels of its moves, in the graph with all its edges
pub is_labelled : (g : GraphShape) (gone : List Pair) (phase : Phase) (labels : List ℕ) → IsGraph g → EdgesFrom g.vertices 0 0 gone → AllPresent (with_edges g gone) phase.edges.now → AreLabels (with_edges g gone) (is_mover phase.moves.now) labels → IsLabelled (with_edges g gone) phase labels
is_labelled g gone phase labels graph up there are = record { graph = insertions_keep_graph g gone graph (inside_from_ascending g.vertices 0 0 gone up); are = are; present = there }
