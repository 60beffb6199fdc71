-- There is one plan of a phase, and it is well formed.
use Rattle.std.proofs.Common.{ℕ, ◌<◌, ◌≡◌, ◌≢◌, Bool, true, List, [], ◌∷◌, length, get_or, map, refl, ap, sym, ◌∙◌, arith, subst}
use Rattle.std.specs.Prelude.{Some}
use Rattle.std.proofs.lemmas.Bool.Decides.{nat_tests}
use Rattle.std.proofs.lemmas.List.{length-map, get_or-map}
use Rattle.std.proofs.lemmas.List.Elements.{All-map}
use Rattle.std.proofs.lemmas.Grind.{common_steps}
use Rattle.kc_graph.specs.Shape.{GraphShape, Pair}
use Rattle.kc_levels.specs.Moved.{is_moved}
use Rattle.kc_levels.specs.declared.moves.Move.{Move}
use Rattle.kc_history.specs.declared.entries.Entry.{Entry}
use Rattle.kc_groups.specs.declared.plans.PhasePlan.{PhasePlan}
use Rattle.kc_groups.specs.Links.{AreLabels}
use Rattle.kc_groups.specs.Entries.{labels_below, moves_below, quiet_entry, group_entry, AreEntries}
use Rattle.kc_groups.specs.WellFormed.{IsMove, IsGroupEntry, IsWellFormed}
use Rattle.kc_groups.specs.Laws.{PlanIsOne, PlanIsWellFormed}
use Rattle.kc_groups.proofs.LabelLaw.{labels_exist, labels_one}
use Rattle.kc_groups.proofs.ListLemmas.{labels_rise, labels_own, all_moves, moves_rise, has_move, rises_apart, vertices}

same_plan : (p q : PhasePlan) → p.quiet ≡ q.quiet → p.groups ≡ q.groups → p ≡ q
same_plan p q e f = grind (arith, nat_tests, common_steps)

pub plan_one : (phase : ℕ) (add : Bool) (edges : List Pair) (x y : List ℕ) (g : GraphShape) (p q : PhasePlan) → AreEntries phase add edges x y g p → AreEntries phase add edges x y g q → p ≡ q
plan_one phase add edges x y g p q a b =
    let same = labels_one g (is_moved x y) a.labels b.labels a.are_labels b.are_labels in
    same_plan p q (a.quiet ∙ sym b.quiet) (a.groups ∙ ap (λ labels. map (group_entry phase add edges x y labels g.vertices) (labels_below labels g.vertices)) same ∙ sym b.groups)

pub plan_is_one : PlanIsOne
plan_is_one phase add edges x y g graph =
    let labels = labels_exist g (is_moved x y) graph in
    let plan : PhasePlan = record { quiet = quiet_entry phase add edges x y; groups = map (group_entry phase add edges x y labels.0 g.vertices) (labels_below labels.0 g.vertices) } in
    let are : AreEntries phase add edges x y g plan = record { labels = labels.0; are_labels = labels.1; quiet = refl; groups = refl } in
    (plan, (are, λ other others. plan_one phase add edges x y g other plan others are))

-- a vertex with a label moves
pub moves_if_labelled : (g : GraphShape) (moved : ℕ → Bool) (labels : List ℕ) (v : ℕ) → AreLabels g moved labels → v < g.vertices → get_or labels v 0 < g.vertices → moved v ≡ true
moves_if_labelled g moved labels v a h low = grind (arith, nat_tests, common_steps, a.none)

differ : (x y : List ℕ) (v : ℕ) → is_moved x y v ≡ true → get_or x v 0 ≢ get_or y v 0
differ x y v m = grind (arith, nat_tests, m)

module _ (phase : ℕ) (add : Bool) (edges : List Pair) (x y labels : List ℕ) (g : GraphShape) where
  abbrev of : ℕ → Entry
  of = group_entry phase add edges x y labels g.vertices

  abbrev roots : List ℕ
  roots = labels_below labels g.vertices

  same_labels : (rs : List ℕ) → map (λ (e : Entry). e.label) (map of rs) ≡ map Some rs
  same_labels [] = refl
  same_labels (r ∷ rs) = ap (λ ls. Some r ∷ ls) (same_labels rs)

  vertex_label : (l a : ℕ) → a < length (vertices (moves_below labels x y l g.vertices)) → get_or labels (get_or (vertices (moves_below labels x y l g.vertices)) a 0) 0 ≡ l
  vertex_label l a h =
      All-map (λ u. get_or labels u 0 ≡ l) (λ (m : Move). m.vertex) (moves_below labels x y l g.vertices)
      (all_moves labels x y l g.vertices g.vertices (λ m. get_or labels m.vertex 0 ≡ l) (omega arith) (λ v low e. e)) a 0 h

  same_place : (l m a b : ℕ) → l ≡ m → a < length (vertices (moves_below labels x y l g.vertices)) → b < length (vertices (moves_below labels x y m g.vertices)) → get_or (vertices (moves_below labels x y l g.vertices)) a 0 ≡ get_or (vertices (moves_below labels x y m g.vertices)) b 0 → a ≡ b
  same_place l m a b e ha =
      subst (λ t. b < length (vertices (moves_below labels x y t g.vertices)) → get_or (vertices (moves_below labels x y l g.vertices)) a 0 ≡ get_or (vertices (moves_below labels x y t g.vertices)) b 0 → a ≡ b) e
      (λ hb s. rises_apart (vertices (moves_below labels x y l g.vertices)) 0 a b (moves_rise labels x y l g.vertices).0 ha hb s)

  module _ (are : AreLabels g (is_moved x y) labels) where
    group_is : (l : ℕ) → get_or labels l 0 ≡ l → l < g.vertices → IsGroupEntry g.vertices phase add (of l)
    group_is l own inside = record {
      phase_is = refl;
      add_is = refl;
      some = let has = has_move labels x y l g.vertices l inside own in omega (arith, has.1);
      moves = all_moves labels x y l g.vertices g.vertices (IsMove g.vertices) (omega arith) (λ v h e. record {
        vertex = h;
        differ = differ x y v (moves_if_labelled g (is_moved x y) labels v are h (omega (arith, e)));
      });
    }

    well_formed : IsWellFormed g.vertices (record { quiet = quiet_entry phase add edges x y; groups = map of (labels_below labels g.vertices) })
    well_formed = record {
      quiet_label = refl;
      quiet_moves = refl;
      groups = All-map (IsGroupEntry g.vertices phase add) of roots (λ i d h. let own = labels_own labels g.vertices g.vertices (omega arith) i d h in group_is (get_or roots i d) own.0 own.1);
      labels = roots;
      labels_are = same_labels roots;
      labels_rise = (labels_rise labels g.vertices).0;
      labels_below = (labels_rise labels g.vertices).1;
      once = λ i j a b hi hj ha hb e.
          let quiet = quiet_entry phase add edges x y in
          let li : i < length roots = omega (arith, length-map roots of) in
          let lj : j < length roots = omega (arith, length-map roots of) in
          let ei = get_or-map of roots i 0 quiet li in
          let ej = get_or-map of roots j 0 quiet lj in
          let wa : a < length (vertices (moves_below labels x y (get_or roots i 0) g.vertices)) = rw ei at ha in
          let wb : b < length (vertices (moves_below labels x y (get_or roots j 0) g.vertices)) = rw ej at hb in
          let s : get_or (vertices (moves_below labels x y (get_or roots i 0) g.vertices)) a 0 ≡ get_or (vertices (moves_below labels x y (get_or roots j 0) g.vertices)) b 0 = rw (ei, ej) at e in
          let label : get_or roots i 0 ≡ get_or roots j 0 = sym (vertex_label (get_or roots i 0) a wa) ∙ ap (λ u. get_or labels u 0) s ∙ vertex_label (get_or roots j 0) b wb in
          (rises_apart roots 0 i j (labels_rise labels g.vertices).0 li lj label, same_place (get_or roots i 0) (get_or roots j 0) a b label wa wb s);
    }

pub plan_is_well_formed : PlanIsWellFormed
plan_is_well_formed phase add edges x y g plan a =
    let made : PhasePlan = record { quiet = quiet_entry phase add edges x y; groups = map (group_entry phase add edges x y a.labels g.vertices) (labels_below a.labels g.vertices) } in
    subst (IsWellFormed g.vertices) (sym (same_plan plan made a.quiet a.groups)) (well_formed phase add edges x y a.labels g a.are_labels)
