-- The entries of a phase lead over it.
use Rattle.std.proofs.Common.{ℕ, ◌≤◌, ◌<◌, ◌≡◌, ◌≢◌, ◌⊎◌, inl, inr, Bool, true, false, not, cond, ◌||◌, ◌&&◌, List, [], ◌∷◌, length, get_or, set, map, refl, ap, sym, ◌∙◌, arith, subst}
use Rattle.std.specs.Prelude.{count_by}
use Rattle.std.specs.List.{All}
use Rattle.std.proofs.lemmas.Bool.{cases_eq, cases_Bool, true≢false}
use Rattle.std.proofs.lemmas.Bool.Decides.{nat_tests}
use Rattle.std.proofs.lemmas.Grind.{same_number_lists, common_steps}
use Rattle.std.proofs.lemmas.List.{get_or-set_other, length-set, get_or-map, length-map}
use Rattle.std.proofs.lemmas.List.Elements.{All-map, All-head, All-tail, All-filter}
use Rattle.kc_graph.specs.Numbers.{has_number}
use Rattle.kc_graph.specs.Shape.{GraphShape, Pair, IsGraph, has_edge, with_edges, without_edges}
use Rattle.kc_graph.proofs.lemmas.Changes.{vertices-with_edges, vertices-without_edges, has_edge-with_edges, has_edge-without_edges, insertions_keep_graph, removals_keep_graph, inside_from_ascending}
use Rattle.kc_graph.proofs.lemmas.Edges.{graph_is_its_edges}
use Rattle.kc_graph.proofs.lemmas.Numbers.{has_number_at, has_number_nowhere}
use Rattle.kc_levels.specs.Moved.{is_moved, move_of}
use Rattle.kc_levels.proofs.lemmas.Writes.{changed}
use Rattle.kc_levels.specs.declared.moves.Move.{Move}
use Rattle.kc_history.specs.declared.entries.Entry.{Entry}
use Rattle.kc_history.specs.Points.{with_moves, with_entry, graph_after, levels_after}
use Rattle.kc_groups.specs.declared.plans.PhasePlan.{PhasePlan}
use Rattle.kc_groups.specs.Entries.{labels_below, moves_below, group_entry, quiet_entry, ends_at, is_quiet, AreEntries}
use Rattle.kc_groups.specs.Laws.{IsPhase, EntriesLeadOver}
use Rattle.kc_groups.proofs.LabelLaw.{labels_joined}
use Rattle.kc_groups.proofs.ListLemmas.{has_label, all_moves, has_move, vertices}
use Rattle.kc_groups.proofs.EdgesLaw.{counted, edges_are_dealt_once}

-- what the levels z after some moves from x towards y are, where the vertices that pass the test are among those that moved
pub record AreOnTheWay (n : ℕ) (x y z : List ℕ) (test : ℕ → Bool) : Type 0 where
  pub sized : length z ≡ n
  pub kept : (v : ℕ) → v < n → get_or x v 0 ≡ get_or y v 0 → get_or z v 0 ≡ get_or y v 0
  pub reached : (v : ℕ) → v < n → test v ≡ true → get_or z v 0 ≡ get_or y v 0
  pub left : (v : ℕ) → v < n → test v ≡ false → get_or z v 0 ≡ get_or x v 0

-- a move to the level in y
abbrev LeadsTo : ℕ → List ℕ → Move → Type 0
LeadsTo n y m = (m.vertex < n) × (m.new ≡ get_or y m.vertex 0)

moves_lead : (n : ℕ) (x y : List ℕ) (ms : List Move) → length x ≡ n → All (LeadsTo n y) ms → AreOnTheWay n x y (with_moves x ms) (λ v. has_number v (vertices ms))
moves_lead n x y [] sized all = record { sized = sized; kept = λ v h e. e; reached = λ v h t. grind (arith, nat_tests, t); left = λ v h t. refl }
moves_lead n x y (m ∷ ms) sized all =
    let here = All-head (LeadsTo n y) m ms all in
    let rest = moves_lead n (set x m.vertex m.new) y ms (length-set x m.vertex m.new ∙ sized) (All-tail (LeadsTo n y) m ms all) in
    record {
      sized = rest.sized;
      kept = λ v h e. rest.kept v h (changed x m.vertex m.new (omega (arith, sized, here.0)) (λ w l. l ≡ get_or y w 0) v here.1 (λ ne. e));
      reached = λ v h t. elim (cases_eq m.vertex v) [
        | inl same ↦ rest.kept v h (subst (λ w. get_or (set x m.vertex m.new) w 0 ≡ get_or y w 0) same (changed x m.vertex m.new (omega (arith, sized, here.0)) (λ w l. w ≡ m.vertex → l ≡ get_or y w 0) m.vertex (λ e. here.1) (λ ne. absurd (ne refl)) refl))
        | inr ne ↦ rest.reached v h (grind (arith, nat_tests, t, ne))
      ];
      left = λ v h t.
          let ne : m.vertex ≢ v = λ same. true≢false (sym (grind (arith, nat_tests, same)) ∙ t) in
          rest.left v h (grind (arith, nat_tests, t, ne)) ∙ get_or-set_other x m.vertex v m.new 0 (λ e. ne (sym e));
    }

module _ (phase : ℕ) (add : Bool) (edges : List Pair) (x y labels : List ℕ) (n : ℕ) where
  abbrev of : ℕ → Entry
  of = group_entry phase add edges x y labels n

  pub moved_at : (l v : ℕ) → v < n → get_or labels v 0 ≡ l → has_number v (vertices (moves_below labels x y l n)) ≡ true
  moved_at l v h e =
      let has = has_move labels x y l n v h e in
      let at : get_or (vertices (moves_below labels x y l n)) has.0 0 ≡ v = get_or-map (λ (m : Move). m.vertex) (moves_below labels x y l n) has.0 (move_of x y v) 0 has.1 ∙ ap (λ (m : Move). m.vertex) has.2 in
      has_number_at v (vertices (moves_below labels x y l n)) has.0 (omega (arith, has.1, length-map (moves_below labels x y l n) (λ (m : Move). m.vertex))) at

  stays_at : (l v : ℕ) → get_or labels v 0 ≢ l → has_number v (vertices (moves_below labels x y l n)) ≡ false
  stays_at l v ne =
      has_number_nowhere v (vertices (moves_below labels x y l n)) (λ k lt e.
      ne (sym (ap (λ u. get_or labels u 0) e)
      ∙ All-map (λ u. get_or labels u 0 ≡ l) (λ (m : Move). m.vertex) (moves_below labels x y l n) (all_moves labels x y l n n (λ m. get_or labels m.vertex 0 ≡ l) (omega arith) (λ w low own. own)) k 0 lt))

  pub groups_lead : (z : List ℕ) (rs : List ℕ) → length z ≡ n → AreOnTheWay n z y (levels_after z (map of rs)) (λ v. has_number (get_or labels v 0) rs)
  groups_lead z [] sized = record { sized = sized; kept = λ v h e. e; reached = λ v h t. grind (arith, nat_tests, t); left = λ v h t. refl }
  groups_lead z (r ∷ rs) sized =
      let here = moves_lead n z y (moves_below labels x y r n) sized (all_moves labels x y r n n (LeadsTo n y) (omega arith) (λ v h e. (h, refl))) in
      let rest = groups_lead (with_moves z (moves_below labels x y r n)) rs here.sized in
      record {
        sized = rest.sized;
        kept = λ v h e. rest.kept v h (here.kept v h e);
        reached = λ v h t. elim (cases_eq r (get_or labels v 0)) [
          | inl same ↦ rest.kept v h (here.reached v h (moved_at r v h (sym same)))
          | inr ne ↦ rest.reached v h (grind (arith, nat_tests, t, ne))
        ];
        left = λ v h t.
            let ne : r ≢ get_or labels v 0 = λ same. true≢false (sym (grind (arith, nat_tests, same)) ∙ t) in
            rest.left v h (grind (arith, nat_tests, t, ne)) ∙ here.left v h (stays_at r v (λ e. ne (sym e)));
      }

lead_levels : (phase : ℕ) (add : Bool) (edges : List Pair) (x y : List ℕ) (g : GraphShape) (plan : PhasePlan) → IsPhase edges x y g → AreEntries phase add edges x y g plan → levels_after x (plan.quiet ∷ plan.groups) ≡ y
lead_levels phase add edges x y g plan is a =
    let roots = labels_below a.labels g.vertices in
    let way = groups_lead phase add edges x y a.labels g.vertices x roots is.before in
    rw (a.quiet, a.groups)
    (same_number_lists (levels_after x (map (group_entry phase add edges x y a.labels g.vertices) (labels_below a.labels g.vertices))) y (way.sized ∙ sym is.after) (λ v h.
    let inside : v < g.vertices = omega (arith, way.sized) in
    elim (cases_Bool (is_moved x y v)) [
      | inl m ↦
          let root = (labels_joined g (is_moved x y) a.labels is.graph a.are_labels).root v inside m in
          way.reached v inside (has_label a.labels g.vertices (get_or a.labels v 0) root.0 root.1)
      | inr still ↦ way.kept v inside (grind (arith, nat_tests, still))
    ]))

-- whether one of the entries has the edge
abbrev pub any_has : Pair → List Entry → Bool
any_has e [] = false
any_has e (t ∷ ts) = has_edge e t.edges || any_has e ts

any_counted : (e : Pair) (ts : List Entry) → ((any_has e ts ≡ true) × (1 ≤ count_by (λ (t : Entry). has_edge e t.edges) ts)) ⊎ ((any_has e ts ≡ false) × (count_by (λ (t : Entry). has_edge e t.edges) ts ≡ 0))
any_counted e [] = inr (refl, refl)
any_counted e (t ∷ ts) = grind (arith, nat_tests, common_steps, any_counted e ts, counted)

any_is : (b : Bool) (e : Pair) (ts : List Entry) → count_by (λ (t : Entry). has_edge e t.edges) ts ≡ cond b 1 0 → any_has e ts ≡ b
any_is true e ts count = elim (any_counted e ts) [ inl some ↦ some.0 | inr no_ ↦ absurd (omega (arith, count, no_.1)) ]
any_is false e ts count = elim (any_counted e ts) [ inl some ↦ absurd (omega (arith, count, some.1)) | inr no_ ↦ no_.0 ]

-- all entries have the direction, and edges between vertices below n
abbrev pub AreToward : ℕ → Bool → List Entry → Type 0
AreToward n b [] = Unit {0}
AreToward n b (t ∷ ts) = (t.add ≡ b) × All (λ (e : Pair). (e.0 < e.1) × (e.1 < n)) t.edges × AreToward n b ts

-- the graph h has the edges that it should have
pub record IsLed (n : ℕ) (h : GraphShape) (test : Pair → Bool) : Type 0 where
  pub graph : IsGraph h
  pub vertices : h.vertices ≡ n
  pub edges : (e : Pair) → has_edge e h.edges ≡ test e

pub added : (n : ℕ) (h : GraphShape) (ts : List Entry) → IsGraph h → h.vertices ≡ n → AreToward n true ts → IsLed n (graph_after h ts) (λ e. any_has e ts || has_edge e h.edges)
added n h [] graph same all = record { graph = graph; vertices = same; edges = λ e. refl }
added n h (t ∷ ts) graph same all =
    let next : with_entry h t ≡ with_edges h t.edges = ap (λ (b : Bool). cond b (with_edges h t.edges) (without_edges h t.edges)) all.0 in
    let inside : All (λ (e : Pair). (e.0 < e.1) × (e.1 < h.vertices)) t.edges = rw same all.1 in
    let rest = added n (with_edges h t.edges) ts (insertions_keep_graph h t.edges graph inside) (vertices-with_edges h t.edges ∙ same) all.2 in
    rw next
    (record {
      graph = rest.graph;
      vertices = rest.vertices;
      edges = λ e. rest.edges e ∙ ap (λ (b : Bool). any_has e ts || b) (has_edge-with_edges e h t.edges) ∙ turned (any_has e ts) (has_edge e t.edges) (has_edge e h.edges);
    })
  where
    turned : (a b c : Bool) → a || (b || c) ≡ (b || a) || c
    turned true true c = refl
    turned true false c = refl
    turned false true c = refl
    turned false false c = refl

pub removed : (n : ℕ) (h : GraphShape) (ts : List Entry) → IsGraph h → h.vertices ≡ n → AreToward n false ts → IsLed n (graph_after h ts) (λ e. not (any_has e ts) && has_edge e h.edges)
removed n h [] graph same all = record { graph = graph; vertices = same; edges = λ e. refl }
removed n h (t ∷ ts) graph same all = grind (arith, nat_tests, common_steps, removed n (without_edges h t.edges) ts (removals_keep_graph h t.edges graph) (vertices-without_edges h t.edges ∙ same) all.2, removals_keep_graph, vertices-without_edges, has_edge-without_edges, t.edges, all.0, all.2)

groups_toward : (phase : ℕ) (add : Bool) (edges : List Pair) (x y labels : List ℕ) (n : ℕ) (rs : List ℕ) → All (λ (e : Pair). (e.0 < e.1) × (e.1 < n)) edges → AreToward n add (map (group_entry phase add edges x y labels n) rs)
groups_toward phase add edges x y labels n [] inside = tt
groups_toward phase add edges x y labels n (r ∷ rs) inside =
    (refl, All-filter (ends_at labels r) (λ (e : Pair). (e.0 < e.1) × (e.1 < n)) edges inside, groups_toward phase add edges x y labels n rs inside)

pub plan_toward : (phase : ℕ) (add : Bool) (edges : List Pair) (x y labels : List ℕ) (n : ℕ) (rs : List ℕ) → All (λ (e : Pair). (e.0 < e.1) × (e.1 < n)) edges → AreToward n add (quiet_entry phase add edges x y ∷ map (group_entry phase add edges x y labels n) rs)
plan_toward phase add edges x y labels n rs inside =
    (refl, All-filter (is_quiet x y) (λ (e : Pair). (e.0 < e.1) × (e.1 < n)) edges inside, groups_toward phase add edges x y labels n rs inside)

lead_graph : (phase : ℕ) (add : Bool) (edges : List Pair) (x y : List ℕ) (g before : GraphShape) (plan : PhasePlan) → IsPhase edges x y g → AreEntries phase add edges x y g plan → IsGraph before → before.vertices ≡ g.vertices → graph_after before (plan.quiet ∷ plan.groups) ≡ cond add (with_edges before edges) (without_edges before edges)
lead_graph phase add edges x y g before plan is a graph same = go add plan a
  where
    inside : All (λ (e : Pair). (e.0 < e.1) × (e.1 < g.vertices)) edges
    inside = inside_from_ascending g.vertices 0 0 edges is.ascending

    here : All (λ (e : Pair). (e.0 < e.1) × (e.1 < before.vertices)) edges
    here = rw same inside

    toward : (b : Bool) (p : PhasePlan) → AreEntries phase b edges x y g p → AreToward g.vertices b (p.quiet ∷ p.groups)
    toward b p c = rw (c.quiet, c.groups) (plan_toward phase b edges x y c.labels g.vertices (labels_below c.labels g.vertices) inside)

    any : (b : Bool) (p : PhasePlan) (e : Pair) → AreEntries phase b edges x y g p → any_has e (p.quiet ∷ p.groups) ≡ has_edge e edges
    any b p e c = any_is (has_edge e edges) e (p.quiet ∷ p.groups) (edges_are_dealt_once phase b edges x y g p e is c)

    go : (b : Bool) (p : PhasePlan) → AreEntries phase b edges x y g p → graph_after before (p.quiet ∷ p.groups) ≡ cond b (with_edges before edges) (without_edges before edges)
    go true p c =
        let led = added g.vertices before (p.quiet ∷ p.groups) graph same (toward true p c) in
        graph_is_its_edges (graph_after before (p.quiet ∷ p.groups)) (with_edges before edges) led.graph (insertions_keep_graph before edges graph here) (led.vertices ∙ sym (vertices-with_edges before edges ∙ same))
        (λ e. led.edges e ∙ ap (λ (t : Bool). t || has_edge e before.edges) (any true p e c) ∙ sym (has_edge-with_edges e before edges))
    go false p c =
        let led = removed g.vertices before (p.quiet ∷ p.groups) graph same (toward false p c) in
        graph_is_its_edges (graph_after before (p.quiet ∷ p.groups)) (without_edges before edges) led.graph (removals_keep_graph before edges graph) (led.vertices ∙ sym (vertices-without_edges before edges ∙ same))
        (λ e. led.edges e ∙ ap (λ (t : Bool). not t && has_edge e before.edges) (any false p e c) ∙ sym (has_edge-without_edges e before edges))

pub entries_lead_over : EntriesLeadOver
entries_lead_over = record { graph = lead_graph; levels = lead_levels }
