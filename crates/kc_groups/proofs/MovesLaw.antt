-- The moves of a plan.
use Rattle.std.proofs.Common.{ℕ, ◌<◌, ◌≡◌, Bool, true, List, length, get_or, refl, ap, sym, ◌∙◌, arith, subst}
use Rattle.std.specs.List.{All, Contains}
use Rattle.std.proofs.lemmas.List.{length-map, get_or-map}
use Rattle.std.proofs.lemmas.List.Elements.{All-map}
use Rattle.kc_graph.specs.Shape.{GraphShape, Pair, IsGraph}
use Rattle.kc_graph.proofs.lemmas.Numbers.{has_number_index}
use Rattle.kc_levels.specs.Moved.{is_moved, move_of}
use Rattle.kc_history.specs.declared.entries.Entry.{Entry}
use Rattle.kc_groups.specs.declared.plans.PhasePlan.{PhasePlan}
use Rattle.kc_groups.specs.Links.{IsLabel}
use Rattle.kc_groups.specs.Entries.{labels_below, moves_below, group_entry, AreEntries}
use Rattle.kc_groups.specs.Laws.{HasMove, IsOwnMove, MovesAreInTheirGroups}
use Rattle.kc_groups.proofs.LabelLaw.{label_one, labels_joined}
use Rattle.kc_groups.proofs.ListLemmas.{labels_own, has_label, all_moves, has_move}
use Rattle.kc_groups.proofs.PlanLaw.{moves_if_labelled}

each : (phase : ℕ) (add : Bool) (edges : List Pair) (x y : List ℕ) (g : GraphShape) (plan : PhasePlan) (v l : ℕ) → IsGraph g → AreEntries phase add edges x y g plan → v < g.vertices → is_moved x y v ≡ true → IsLabel g (is_moved x y) v l → HasMove x y v l plan
each phase add edges x y g plan v l graph a h m is =
    let of = group_entry phase add edges x y a.labels g.vertices in
    let roots = labels_below a.labels g.vertices in
    let label : get_or a.labels v 0 ≡ l = label_one g (is_moved x y) v (get_or a.labels v 0) l (a.are_labels.label v h m) is in
    let root = (labels_joined g (is_moved x y) a.labels graph a.are_labels).root v h m in
    let there : (l < g.vertices) × (get_or a.labels l 0 ≡ l) = rw label at root in
    let place = has_number_index l roots (has_label a.labels g.vertices l there.0 there.1) in
    let entry : get_or plan.groups place.0 plan.quiet ≡ of l = ap (λ (es : List Entry). get_or es place.0 plan.quiet) a.groups ∙ get_or-map of roots place.0 0 plan.quiet place.1 ∙ ap of place.2 in
    record {
      place = place.0;
      inside = omega (arith, ap (λ (es : List Entry). length es) a.groups, length-map roots of, place.1);
      label = ap (λ (e : Entry). e.label) entry;
      move = subst (λ (e : Entry). Contains e.moves (move_of x y v)) (sym entry) (has_move a.labels x y l g.vertices v h label);
    }

only : (phase : ℕ) (add : Bool) (edges : List Pair) (x y : List ℕ) (g : GraphShape) (plan : PhasePlan) → AreEntries phase add edges x y g plan → All (λ e. All (IsOwnMove x y g e) e.moves) plan.groups
only phase add edges x y g plan a =
    let of = group_entry phase add edges x y a.labels g.vertices in
    let roots = labels_below a.labels g.vertices in
    subst (All (λ (e : Entry). All (IsOwnMove x y g e) e.moves)) (sym a.groups)
    (All-map (λ (e : Entry). All (IsOwnMove x y g e) e.moves) of roots (λ i d h.
    let own = labels_own a.labels g.vertices g.vertices (omega arith) i d h in
    group (get_or roots i d) own.1))
  where
    group : (l : ℕ) → l < g.vertices → All (IsOwnMove x y g (group_entry phase add edges x y a.labels g.vertices l)) (moves_below a.labels x y l g.vertices)
    group l low = all_moves a.labels x y l g.vertices g.vertices (IsOwnMove x y g (group_entry phase add edges x y a.labels g.vertices l)) (omega arith) (λ v h e.
        let moves = moves_if_labelled g (is_moved x y) a.labels v a.are_labels h (omega (arith, e)) in
        record { inside = h; moves = moves; move = refl; label = l; label_is = subst (IsLabel g (is_moved x y) v) e (a.are_labels.label v h moves); entry = refl })

pub moves_are_in_their_groups : MovesAreInTheirGroups
moves_are_in_their_groups = record { each = each; only = only }
