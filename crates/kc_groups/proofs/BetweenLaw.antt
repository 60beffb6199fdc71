-- The points of a phase lie between its ends.
use Rattle.std.proofs.Common.{ℕ, suc, zero, ◌≤◌, ◌<◌, ◌≡◌, ◌≢◌, ◌⊎◌, inl, inr, Bool, true, false, not, ◌||◌, ◌&&◌, List, [], ◌∷◌, get_or, map, filter, take, refl, ap, sym, ◌∙◌, arith}
use Rattle.std.proofs.lemmas.Bool.{cases_eq, cases_Bool, true≢false}
use Rattle.std.proofs.lemmas.Bool.Decides.{nat_tests}
use Rattle.std.proofs.lemmas.List.{get_or_past, take-map}
use Rattle.std.proofs.Math.Bool.{or-true}
use Rattle.std.proofs.lemmas.Grind.{common_steps}
use Rattle.kc_graph.specs.Numbers.{AllBelow, has_number}
use Rattle.kc_graph.specs.Shape.{GraphShape, Pair, IsGraph, has_edge, joined, with_edges, without_edges}
use Rattle.kc_graph.proofs.lemmas.Changes.{vertices-without_edges, has_edge-with_edges, has_edge-without_edges, removals_keep_graph, inside_from_ascending}
use Rattle.kc_graph.proofs.lemmas.Edges.{joined_inside, has_edge-filter}
use Rattle.kc_levels.specs.LevelList.{IsBelow}
use Rattle.kc_levels.specs.Between.{IsBetween}
use Rattle.kc_levels.specs.Moved.{is_moved}
use Rattle.kc_levels.proofs.lemmas.AtLeast.{below_everywhere}
use Rattle.kc_history.specs.declared.entries.Entry.{Entry}
use Rattle.kc_history.specs.Points.{graph_after, levels_after}
use Rattle.kc_groups.specs.declared.plans.PhasePlan.{PhasePlan}
use Rattle.kc_groups.specs.Links.{AreLabels}
use Rattle.kc_groups.specs.private.Labels.{AreJoined, AreRooted}
use Rattle.kc_groups.specs.Entries.{labels_below, group_entry, quiet_entry, ends_at, entries_of, AreEntries}
use Rattle.kc_groups.specs.Laws.{IsPhase, PointsLieBetween}
use Rattle.kc_groups.proofs.LabelLaw.{labels_joined}
use Rattle.kc_groups.proofs.ListLemmas.{labels_rise}
use Rattle.kc_groups.proofs.EndLemmas.{edge_label, edge_joined, rooted, IsAt, is_at, ends_yes, ends_no, label_root}
use Rattle.kc_groups.proofs.EdgesLaw.{present_in}
use Rattle.kc_groups.proofs.LeadLaw.{AreOnTheWay, groups_lead, any_has, plan_toward, added, removed}

and_second : (a b : Bool) → a && b ≡ true → b ≡ true
and_second true b h = h
and_second false b h = absurd (true≢false (sym h))

below_take : (n k : ℕ) (xs : List ℕ) → AllBelow n xs → AllBelow n (take k xs)
below_take n zero xs below = tt
below_take n (suc k) [] below = tt
below_take n (suc k) (x ∷ xs) below = (below.0, below_take n k xs below.1)

filtered_none : (e : Pair) (p : Pair → Bool) (es : List Pair) → has_edge e es ≡ false → has_edge e (filter p es) ≡ false
filtered_none e p es none = has_edge-filter e p es ∙ grind (arith, nat_tests, none)

module _ (phase : ℕ) (add : Bool) (edges : List Pair) (x y labels : List ℕ) (g : GraphShape) where
  abbrev of : ℕ → Entry
  of = group_entry phase add edges x y labels g.vertices

  groups_out : (e : Pair) (rs : List ℕ) → has_edge e edges ≡ false → any_has e (map of rs) ≡ false
  groups_out e [] none = refl
  groups_out e (r ∷ rs) none = grind (arith, nat_tests, common_steps, groups_out e rs none, filtered_none)

  groups_hidden : (e : Pair) (l : ℕ) (rs : List ℕ) → IsAt g.vertices l (get_or labels e.0 0) (get_or labels e.1 0) → AllBelow g.vertices rs → has_number l rs ≡ false → any_has e (map of rs) ≡ false
  groups_hidden e l [] at below hidden = refl
  groups_hidden e l (r ∷ rs) at below hidden =
      let ne : r ≢ l = λ same. true≢false (sym (grind (arith, nat_tests, same)) ∙ hidden) in
      ap (λ b. b || any_has e (map of rs)) (has_edge-filter e (ends_at labels r) edges ∙ ap (λ b. b && has_edge e edges) (ends_no g.vertices l r labels e at below.0 ne))
      ∙ groups_hidden e l rs at below.1 (grind (arith, nat_tests, hidden, ne))

  groups_shown : (e : Pair) (l : ℕ) (rs : List ℕ) → IsAt g.vertices l (get_or labels e.0 0) (get_or labels e.1 0) → has_edge e edges ≡ true → has_number l rs ≡ true → any_has e (map of rs) ≡ true
  groups_shown e l [] at has shown = absurd (true≢false (sym shown))
  groups_shown e l (r ∷ rs) at has shown = elim (cases_eq r l) [
    | inl same ↦
        ap (λ b. b || any_has e (map of rs))
        (has_edge-filter e (ends_at labels r) edges ∙ ap (λ b. b && has_edge e edges) (ap (λ t. ends_at labels t e) same ∙ ends_yes g.vertices l labels e at) ∙ has)
    | inr ne ↦
        ap (λ b. has_edge e (filter (ends_at labels r) edges) || b) (groups_shown e l rs at has (grind (arith, nat_tests, shown, ne))) ∙ or-true (has_edge e (filter (ends_at labels r) edges))
  ]

  end_label : (e : Pair) (v : ℕ) → AreRooted g.vertices (is_moved x y) labels → IsAt g.vertices (edge_label x y labels e) (get_or labels e.0 0) (get_or labels e.1 0) → (v ≡ e.0) ⊎ (v ≡ e.1) → v < g.vertices → is_moved x y v ≡ true → edge_label x y labels e ≡ get_or labels v 0
  end_label e v r at end h m = elim end [
    | inl low ↦ one (get_or labels e.0 0) (ap (λ u. get_or labels u 0) low) at.first
    | inr high ↦ one (get_or labels e.1 0) (ap (λ u. get_or labels u 0) high) at.second
  ]
    where
      one : (l : ℕ) → get_or labels v 0 ≡ l → (l ≡ edge_label x y labels e) ⊎ (l ≡ g.vertices) → edge_label x y labels e ≡ get_or labels v 0
      one l same why = elim why [ inl is ↦ sym (same ∙ is) | inr none ↦ absurd (omega (arith, (r.root v h m).0, same, none)) ]

  module _ (is : IsPhase edges x y g) (are : AreLabels g (is_moved x y) labels) (rs : List ℕ) (below : AllBelow g.vertices rs) where
    joins : AreJoined g (is_moved x y) labels
    joins = labels_joined g (is_moved x y) labels is.graph are

    -- an edge of the phase at a vertex that moves is in one of the entries exactly where its label is among theirs
    any_at : (e : Pair) (v : ℕ) → (v ≡ e.0) ⊎ (v ≡ e.1) → v < g.vertices → is_moved x y v ≡ true → any_has e (quiet_entry phase add edges x y ∷ map of rs) ≡ has_number (get_or labels v 0) rs && has_edge e edges
    any_at e v end h m = grind (arith, nat_tests, common_steps, filtered_none, groups_out, rooted, joins, edge_joined, present_in, is_at, end_label, edge_label, has_edge-filter, label_root, groups_shown, groups_hidden, is.graph, is.present)

    -- an edge of an entry is one of the phase
    any_inside : (e : Pair) → any_has e (quiet_entry phase add edges x y ∷ map of rs) ≡ true → has_edge e edges ≡ true
    any_inside e any = grind (arith, nat_tests, common_steps, true≢false, filtered_none, groups_out)

    module _ (z : List ℕ) (way : AreOnTheWay g.vertices x y z (λ v. has_number (get_or labels v 0) rs)) where
      still : (v : ℕ) → v < g.vertices → is_moved x y v ≡ false → (get_or x v 0 ≡ get_or y v 0) × (get_or z v 0 ≡ get_or y v 0)
      still v h m = let same : get_or x v 0 ≡ get_or y v 0 = grind (arith, nat_tests, m) in (same, way.kept v h same)

      near_old : (v w : ℕ) → v < g.vertices → is_moved x y v ≡ true → has_number (get_or labels v 0) rs ≡ false → joined v w g.edges ≡ true → get_or z w 0 ≡ get_or x w 0
      near_old v w h m hidden share = grind (arith, nat_tests, common_steps, joined_inside, joins, still, is.graph, way.left)

      near_new : (v w : ℕ) → v < g.vertices → is_moved x y v ≡ true → has_number (get_or labels v 0) rs ≡ true → joined v w g.edges ≡ true → get_or z w 0 ≡ get_or y w 0
      near_new v w h m shown share = grind (arith, nat_tests, common_steps, joined_inside, joins, still, is.graph, way.reached)

      -- a level is the old or the new one
      either : (w : ℕ) → (get_or z w 0 ≡ get_or x w 0) ⊎ (get_or z w 0 ≡ get_or y w 0)
      either w = grind (arith, nat_tests, common_steps, get_or_past, way.sized, is.before, way.reached, way.left)

      from_old : (w : ℕ) → IsBelow g.vertices x y → (get_or x w 0 ≤ get_or z w 0) × (get_or z w 0 ≤ get_or y w 0)
      from_old w low = grind (arith, nat_tests, common_steps, below_everywhere, either, is.before)

      from_new : (w : ℕ) → IsBelow g.vertices y x → (get_or y w 0 ≤ get_or z w 0) × (get_or z w 0 ≤ get_or x w 0)
      from_new w low = grind (arith, nat_tests, common_steps, below_everywhere, either, is.after)

joined_same : (v w : ℕ) (es fs : List Pair) → has_edge (v, w) es ≡ has_edge (v, w) fs → has_edge (w, v) es ≡ has_edge (w, v) fs → joined v w es ≡ joined v w fs
joined_same v w es fs a b = ap (λ t. t || has_edge (w, v) es) a ∙ ap (λ t. has_edge (v, w) fs || t) b

joined_more : (v w : ℕ) (es fs : List Pair) → ((e : Pair) → has_edge e es ≡ true → has_edge e fs ≡ true) → joined v w es ≡ true → joined v w fs ≡ true
joined_more v w es fs more share = grind (arith, nat_tests, common_steps, or-true)

module _ (phase : ℕ) (edges : List Pair) (x y labels : List ℕ) (g : GraphShape) (is : IsPhase edges x y g) (are : AreLabels g (is_moved x y) labels) (rs : List ℕ) (below : AllBelow g.vertices rs) where
  module _ (before : GraphShape) (graph : IsGraph before) (same : before.vertices ≡ g.vertices) (new : g ≡ with_edges before edges) (low : IsBelow g.vertices x y) where
    abbrev coming : List Entry
    coming = quiet_entry phase true edges x y ∷ map (group_entry phase true edges x y labels g.vertices) rs

    insertion_between : IsBetween before g (graph_after before (quiet_entry phase true edges x y ∷ map (group_entry phase true edges x y labels g.vertices) rs)) x y (levels_after x (map (group_entry phase true edges x y labels g.vertices) rs))
    insertion_between =
        let h = graph_after before coming in
        let z = levels_after x (map (group_entry phase true edges x y labels g.vertices) rs) in
        let way = groups_lead phase true edges x y labels g.vertices x rs is.before in
        let led = added g.vertices before coming graph same (plan_toward phase true edges x y labels g.vertices rs (inside_from_ascending g.vertices 0 0 edges is.ascending)) in
        let union : (e : Pair) → has_edge e g.edges ≡ has_edge e edges || has_edge e before.edges = λ e. ap (λ (t : GraphShape). has_edge e t.edges) new ∙ has_edge-with_edges e before edges in
        let more : (e : Pair) → has_edge e before.edges ≡ true → has_edge e h.edges ≡ true = λ e has. led.edges e ∙ ap (λ b. any_has e coming || b) has ∙ or-true (any_has e coming) in
        let fewer : (e : Pair) → has_edge e h.edges ≡ true → has_edge e g.edges ≡ true = λ e has. elim (cases_Bool (any_has e coming)) [
          | inl any ↦ present_in g e edges is.present (any_inside phase true edges x y labels g is are rs below e any)
          | inr none ↦ union e ∙ ap (λ b. has_edge e edges || b) (sym (ap (λ b. b || has_edge e before.edges) none) ∙ sym (led.edges e) ∙ has) ∙ or-true (has_edge e edges)
        ] in
        record {
          graphs = record {
            lower = graph;
            upper = is.graph;
            middle = led.graph;
            same_lower = same ∙ sym led.vertices;
            same_upper = sym led.vertices;
          };
          sized = way.sized ∙ sym led.vertices;
          above = λ w. (from_old phase true edges x y labels g is are rs below z way w low).0;
          below = λ w. (from_old phase true edges x y labels g is are rs below z way w low).1;
          more = λ v w. joined_more v w before.edges h.edges more;
          fewer = λ v w. joined_more v w h.edges g.edges fewer;
          each = λ v hv.
              let at : v < g.vertices = omega (arith, hv, led.vertices) in
              elim (cases_Bool (is_moved x y v)) [
                | inr sv ↦ inl (still phase true edges x y labels g is are rs below z way v at sv).0
                | inl m ↦ inr (elim (cases_Bool (has_number (get_or labels v 0) rs)) [
                  | inr hidden ↦
                      let alike : (e : Pair) → (v ≡ e.0) ⊎ (v ≡ e.1) → has_edge e h.edges ≡ has_edge e before.edges = λ e end.
                      led.edges e ∙ ap (λ b. b || has_edge e before.edges) (any_at phase true edges x y labels g is are rs below e v end at m ∙ ap (λ b. b && has_edge e edges) hidden) in
                      inl (record {
                        level = way.left v at hidden;
                        edges = λ w. joined_same v w h.edges before.edges (alike (v, w) (inl refl)) (alike (w, v) (inr refl));
                        levels = λ w share. near_old phase true edges x y labels g is are rs below z way v w at m hidden (joined_more v w before.edges g.edges (λ e has. fewer e (more e has)) share);
                      })
                  | inl shown ↦
                      let alike : (e : Pair) → (v ≡ e.0) ⊎ (v ≡ e.1) → has_edge e h.edges ≡ has_edge e g.edges = λ e end.
                      led.edges e ∙ ap (λ b. b || has_edge e before.edges) (any_at phase true edges x y labels g is are rs below e v end at m ∙ ap (λ b. b && has_edge e edges) shown) ∙ sym (union e) in
                      inr (record {
                        level = way.reached v at shown;
                        edges = λ w. joined_same v w h.edges g.edges (alike (v, w) (inl refl)) (alike (w, v) (inr refl));
                        levels = λ w share. near_new phase true edges x y labels g is are rs below z way v w at m shown share;
                      })
                ])
              ];
        }

  module _ (low : IsBelow g.vertices y x) where
    abbrev leaving : List Entry
    leaving = quiet_entry phase false edges x y ∷ map (group_entry phase false edges x y labels g.vertices) rs

    deletion_between : IsBetween (without_edges g edges) g (graph_after g (quiet_entry phase false edges x y ∷ map (group_entry phase false edges x y labels g.vertices) rs)) y x (levels_after x (map (group_entry phase false edges x y labels g.vertices) rs))
    deletion_between =
        let h = graph_after g leaving in
        let after = without_edges g edges in
        let z = levels_after x (map (group_entry phase false edges x y labels g.vertices) rs) in
        let way = groups_lead phase false edges x y labels g.vertices x rs is.before in
        let led = removed g.vertices g leaving is.graph refl (plan_toward phase false edges x y labels g.vertices rs (inside_from_ascending g.vertices 0 0 edges is.ascending)) in
        let left : (e : Pair) → has_edge e (without_edges g edges).edges ≡ not (has_edge e edges) && has_edge e g.edges = λ e. has_edge-without_edges e g edges in
        let fewer : (e : Pair) → has_edge e h.edges ≡ true → has_edge e g.edges ≡ true = λ e has. and_second (not (any_has e leaving)) (has_edge e g.edges) (sym (led.edges e) ∙ has) in
        let more : (e : Pair) → has_edge e after.edges ≡ true → has_edge e h.edges ≡ true = λ e has. elim (cases_Bool (any_has e leaving)) [
          | inl any ↦ absurd (true≢false (sym has ∙ left e ∙ ap (λ b. not b && has_edge e g.edges) (any_inside phase false edges x y labels g is are rs below e any)))
          | inr none ↦ led.edges e ∙ ap (λ b. not b && has_edge e g.edges) none ∙ and_second (not (has_edge e edges)) (has_edge e g.edges) (sym (left e) ∙ has)
        ] in
        record {
          graphs = record {
            lower = removals_keep_graph g edges is.graph;
            upper = is.graph;
            middle = led.graph;
            same_lower = vertices-without_edges g edges ∙ sym led.vertices;
            same_upper = sym led.vertices;
          };
          sized = way.sized ∙ sym led.vertices;
          above = λ w. (from_new phase false edges x y labels g is are rs below z way w low).0;
          below = λ w. (from_new phase false edges x y labels g is are rs below z way w low).1;
          more = λ v w. joined_more v w after.edges h.edges more;
          fewer = λ v w. joined_more v w h.edges g.edges fewer;
          each = λ v hv.
              let at : v < g.vertices = omega (arith, hv, led.vertices) in
              elim (cases_Bool (is_moved x y v)) [
                | inr sv ↦ inl (sym (still phase false edges x y labels g is are rs below z way v at sv).0)
                | inl m ↦ inr (elim (cases_Bool (has_number (get_or labels v 0) rs)) [
                  | inr hidden ↦
                      let alike : (e : Pair) → (v ≡ e.0) ⊎ (v ≡ e.1) → has_edge e h.edges ≡ has_edge e g.edges = λ e end.
                      led.edges e ∙ ap (λ b. not b && has_edge e g.edges) (any_at phase false edges x y labels g is are rs below e v end at m ∙ ap (λ b. b && has_edge e edges) hidden) in
                      inr (record {
                        level = way.left v at hidden;
                        edges = λ w. joined_same v w h.edges g.edges (alike (v, w) (inl refl)) (alike (w, v) (inr refl));
                        levels = λ w share. near_old phase false edges x y labels g is are rs below z way v w at m hidden share;
                      })
                  | inl shown ↦
                      let alike : (e : Pair) → (v ≡ e.0) ⊎ (v ≡ e.1) → has_edge e h.edges ≡ has_edge e after.edges = λ e end.
                      led.edges e ∙ ap (λ b. not b && has_edge e g.edges) (any_at phase false edges x y labels g is are rs below e v end at m ∙ ap (λ b. b && has_edge e edges) shown) ∙ sym (left e) in
                      inl (record {
                        level = way.reached v at shown;
                        edges = λ w. joined_same v w h.edges after.edges (alike (v, w) (inl refl)) (alike (w, v) (inr refl));
                        levels = λ w share. near_new phase false edges x y labels g is are rs below z way v w at m shown (joined_more v w after.edges g.edges (λ e has. fewer e (more e has)) share);
                      })
                ])
              ];
        }

-- the first point of a phase is the one before it
insertion_first : (edges : List Pair) (x y : List ℕ) (g before : GraphShape) → IsPhase edges x y g → IsGraph before → before.vertices ≡ g.vertices → g ≡ with_edges before edges → IsBelow g.vertices x y → IsBetween before g before x y x
insertion_first edges x y g before is graph same new low = record {
  graphs = record {
    lower = graph;
    upper = is.graph;
    middle = graph;
    same_lower = refl;
    same_upper = sym same;
  };
  sized = is.before ∙ sym same;
  above = λ w. omega arith;
  below = λ w. below_everywhere g.vertices x y w is.before low;
  more = λ v w share. share;
  fewer = λ v w. joined_more v w before.edges g.edges (λ e has. ap (λ (t : GraphShape). has_edge e t.edges) new ∙ has_edge-with_edges e before edges ∙ ap (λ b. has_edge e edges || b) has ∙ or-true (has_edge e edges));
  each = λ v h. inr (inl (record { level = refl; edges = λ w. refl; levels = λ w share. refl }));
}

deletion_first : (edges : List Pair) (x y : List ℕ) (g : GraphShape) → IsPhase edges x y g → IsBelow g.vertices y x → IsBetween (without_edges g edges) g g y x x
deletion_first edges x y g is low = record {
  graphs = record {
    lower = removals_keep_graph g edges is.graph;
    upper = is.graph;
    middle = is.graph;
    same_lower = vertices-without_edges g edges;
    same_upper = refl;
  };
  sized = is.before;
  above = λ w. below_everywhere g.vertices y x w is.after low;
  below = λ w. omega arith;
  more = λ v w. joined_more v w (without_edges g edges).edges g.edges (λ e has. and_second (not (has_edge e edges)) (has_edge e g.edges) (sym (has_edge-without_edges e g edges) ∙ has));
  fewer = λ v w share. share;
  each = λ v h. inr (inr (record { level = refl; edges = λ w. refl; levels = λ w share. refl }));
}

insertion : (phase : ℕ) (edges : List Pair) (x y : List ℕ) (g before : GraphShape) (plan : PhasePlan) (p : ℕ) → IsPhase edges x y g → AreEntries phase true edges x y g plan → IsGraph before → before.vertices ≡ g.vertices → g ≡ with_edges before edges → IsBelow g.vertices x y → IsBetween before g (graph_after before (take p (entries_of plan))) x y (levels_after x (take p (entries_of plan)))
insertion phase edges x y g before plan zero is a graph same new low = insertion_first edges x y g before is graph same new low
insertion phase edges x y g before plan (suc k) is a graph same new low =
    let roots = labels_below a.labels g.vertices in
    rw (a.quiet, a.groups, take-map (group_entry phase true edges x y a.labels g.vertices) k roots)
    (insertion_between phase edges x y a.labels g is a.are_labels (take k roots) (below_take g.vertices k roots (labels_rise a.labels g.vertices).1) before graph same new low)

deletion : (phase : ℕ) (edges : List Pair) (x y : List ℕ) (g : GraphShape) (plan : PhasePlan) (p : ℕ) → IsPhase edges x y g → AreEntries phase false edges x y g plan → IsBelow g.vertices y x → IsBetween (without_edges g edges) g (graph_after g (take p (entries_of plan))) y x (levels_after x (take p (entries_of plan)))
deletion phase edges x y g plan zero is a low = deletion_first edges x y g is low
deletion phase edges x y g plan (suc k) is a low =
    let roots = labels_below a.labels g.vertices in
    rw (a.quiet, a.groups, take-map (group_entry phase false edges x y a.labels g.vertices) k roots)
    (deletion_between phase edges x y a.labels g is a.are_labels (take k roots) (below_take g.vertices k roots (labels_rise a.labels g.vertices).1) low)

pub points_lie_between : PointsLieBetween
points_lie_between = record { insertion = insertion; deletion = deletion }
