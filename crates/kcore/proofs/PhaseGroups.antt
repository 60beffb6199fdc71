-- The groups of a phase as group lines of a run.
use Rattle.std.proofs.Common.{ℕ, suc, ◌≤◌, ◌<◌, ◌≡◌, Bool, true, false, ◌||◌, List, [], ◌∷◌, get_or, map, refl, sym, ap, ◌∙◌, subst, arith}
use Rattle.std.specs.Prelude.{◌==◌, nat_le, nat_lt, Some, All, Contains}
use Rattle.std.specs.List.{list_all}
use Rattle.std.proofs.lemmas.Bool.{and_from, le-leb, lt-ltb}
use Rattle.std.proofs.lemmas.List.{length-map, get_or-map}
use Rattle.std.proofs.lemmas.List.Elements.{All-nil, All-cons, All-head, All-tail}
use Rattle.kc_graph.specs.Numbers.{RisesFrom, has_number}
use Rattle.kc_graph.specs.Shape.{GraphShape, Pair}
use Rattle.kc_graph.proofs.lemmas.Numbers.{has_number_below, has_number_at}
use Rattle.kc_levels.specs.Moved.{is_moved, move_of}
use Rattle.kc_levels.specs.declared.moves.Move.{Move}
use Rattle.kc_history.specs.declared.entries.Entry.{Entry}
use Rattle.kc_history.specs.declared.replies.Reply.{Reply}
use Rattle.kc_groups.specs.declared.plans.PhasePlan.{PhasePlan}
use Rattle.kc_groups.specs.Links.{AreLabels}
use Rattle.kc_groups.specs.Entries.{labels_below, moves_below, group_entry, AreEntries}
use Rattle.kc_groups.proofs.lemmas.Plans.{labels_rise, labels_own, all_moves, moves_rise, has_move, vertices, moves_if_labelled}
use Rattle.kc_audit.specs.Documents.{rises_from, is_group}
use Rattle.kc_audit.specs.Laws.{member_of, lines_of}
use Rattle.kc_audit.specs.ReadBack.{GroupFits, GroupsFit}

-- ascending members
rises : (low : ℕ) (ms : List Move) → RisesFrom low (vertices ms) → rises_from low (map member_of ms) ≡ true
rises low [] r = refl
rises low (m ∷ ms) r = and_from (nat_le low m.vertex) (rises_from (suc m.vertex) (map member_of ms)) (le-leb low m.vertex r.0) (rises (suc m.vertex) ms r.1)

first_or_later : (first later : Bool) → later ≡ false → (first || later) ≡ true → first ≡ true
first_or_later true later e h = refl
first_or_later false later e h = sym e ∙ h

-- the least of ascending vertices is the first
leads : (l : ℕ) (ms : List Move) → RisesFrom 0 (vertices ms) → All (λ (m : Move). l ≤ m.vertex) ms → has_number l (vertices ms) ≡ true → is_group l (map member_of ms) ≡ true
leads l [] r least h = absurd cc
leads l (m ∷ ms) r least h =
    let low : l ≤ m.vertex = All-head (λ (m : Move). l ≤ m.vertex) m ms least in
    let later = has_number_below (suc m.vertex) l (vertices ms) r.1 (omega (arith, low)) in
    and_from (m.vertex == l) (rises_from l (map member_of (m ∷ ms))) (first_or_later (m.vertex == l) (has_number l (vertices ms)) later h)
    (and_from (nat_le l m.vertex) (rises_from (suc m.vertex) (map member_of ms)) (le-leb l m.vertex low) (rises (suc m.vertex) ms r.1))

-- a test that each member passes
each_passes : (test : Reply → Bool) (ms : List Move) → All (λ (m : Move). test (member_of m) ≡ true) ms → list_all test (map member_of ms) ≡ true
each_passes test [] h = refl
each_passes test (m ∷ ms) h = and_from (test (member_of m)) (list_all test (map member_of ms)) (All-head (λ (m : Move). test (member_of m) ≡ true) m ms h) (each_passes test ms (All-tail (λ (m : Move). test (member_of m) ≡ true) m ms h))

has_vertex : (ms : List Move) (m : Move) → Contains ms m → has_number m.vertex (vertices ms) ≡ true
has_vertex ms m c =
    has_number_at m.vertex (vertices ms) c.0 (omega (arith, c.1, length-map ms (λ (x : Move). x.vertex)))
    (get_or-map (λ (x : Move). x.vertex) ms c.0 m 0 c.1 ∙ ap (λ (x : Move). x.vertex) c.2)

module _ (phase : ℕ) (add : Bool) (edges : List Pair) (x y labels : List ℕ) (g : GraphShape) (are : AreLabels g (is_moved x y) labels) (low : (v : ℕ) → v < g.vertices → get_or y v 0 ≤ 65535) where
  abbrev of : ℕ → Entry
  of = group_entry phase add edges x y labels g.vertices

  abbrev moves : ℕ → List Move
  moves l = moves_below labels x y l g.vertices

  -- no vertex of a group is below its label
  least : (l : ℕ) → l < g.vertices → All (λ (m : Move). l ≤ m.vertex) (moves l)
  least l h = all_moves labels x y l g.vertices g.vertices (λ (m : Move). l ≤ m.vertex) (omega arith) (λ v inside e.
      let label = are.label v inside (moves_if_labelled g (is_moved x y) labels v are inside (omega (arith, e, h))) in
      omega (arith, e, label.least v 0 refl))

  group_fits : (from l : ℕ) → from ≤ l → get_or labels l 0 ≡ l → l < g.vertices → GroupFits g.vertices phase from (record { phase = phase; label = l; members = map member_of (moves l) })
  group_fits from l h own inside = record {
    phase = refl;
    label = h;
    rises = leads l (moves l) (moves_rise labels x y l g.vertices).0 (least l inside) (has_vertex (moves l) (move_of x y l) (has_move labels x y l g.vertices l inside own));
    below = each_passes (λ (r : Reply). nat_lt r.vertex g.vertices) (moves l) (all_moves labels x y l g.vertices g.vertices (λ (m : Move). nat_lt m.vertex g.vertices ≡ true) (omega arith) (λ v i e. lt-ltb v g.vertices i));
    levels = each_passes (λ (r : Reply). nat_le r.level 65535) (moves l) (all_moves labels x y l g.vertices g.vertices (λ (m : Move). nat_le m.new 65535 ≡ true) (omega arith) (λ v i e. le-leb (get_or y v 0) 65535 (low v i)));
  }

  abbrev IsOwn : ℕ → Type 0
  IsOwn l = (get_or labels l 0 ≡ l) × (l < g.vertices)

  groups_fit : (from : ℕ) (ls : List ℕ) → RisesFrom from ls → All IsOwn ls → GroupsFit g.vertices phase from (lines_of (map of ls))
  groups_fit from [] r own = tt
  groups_fit from (l ∷ ls) r own =
      let here = All-head IsOwn l ls own in
      (group_fits from l r.0 here.0 here.1, groups_fit (suc l) ls r.1 (All-tail IsOwn l ls own))

-- the group lines of a phase after which no level is above 65,535
pub plan_fits : (phase : ℕ) (add : Bool) (edges : List Pair) (x y : List ℕ) (g : GraphShape) (plan : PhasePlan) → ((v : ℕ) → v < g.vertices → get_or y v 0 ≤ 65535) → AreEntries phase add edges x y g plan
    → GroupsFit g.vertices phase 0 (lines_of plan.groups)
plan_fits phase add edges x y g plan low a =
    subst (λ (es : List Entry). GroupsFit g.vertices phase 0 (lines_of es)) (sym a.groups)
    (groups_fit phase add edges x y a.labels g a.are_labels low 0 (labels_below a.labels g.vertices) (labels_rise a.labels g.vertices).0 (labels_own a.labels g.vertices g.vertices (omega arith)))

-- each group has a label
abbrev pub HasLabel : Entry → Type 0
HasLabel e = (label : ℕ) × (e.label ≡ Some label)

all_labelled : (phase : ℕ) (add : Bool) (edges : List Pair) (x y labels : List ℕ) (n : ℕ) (ls : List ℕ) → All HasLabel (map (group_entry phase add edges x y labels n) ls)
all_labelled phase add edges x y labels n [] = All-nil HasLabel
all_labelled phase add edges x y labels n (l ∷ ls) = All-cons HasLabel _ _ (l, refl) (all_labelled phase add edges x y labels n ls)

pub plan_labelled : (phase : ℕ) (add : Bool) (edges : List Pair) (x y : List ℕ) (g : GraphShape) (plan : PhasePlan) → AreEntries phase add edges x y g plan → All HasLabel plan.groups
plan_labelled phase add edges x y g plan a =
    subst (λ (es : List Entry). All HasLabel es) (sym a.groups) (all_labelled phase add edges x y a.labels g.vertices (labels_below a.labels g.vertices))
