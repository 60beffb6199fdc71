-- Labels exist: lower each to that of a linked vertex until none is lower.
use Rattle.std.proofs.Common.{ℕ, suc, zero, ◌+◌, ◌≤◌, ◌<◌, ◌≡◌, ◌⊎◌, inl, inr, Bool, true, false, cond, List, [], ◌∷◌, length, get_or, set, refl, ap, sym, ◌∙◌, arith, subst, sum}
use Rattle.std.proofs.lemmas.Bool.{cases_eq, cases_lt, cases_Bool, true≢false}
use Rattle.std.proofs.lemmas.List.{length-set, get_or-set_same, get_or-set_other}
use Rattle.std.proofs.lemmas.List.Sums.{sum_by-set}
use Rattle.std.proofs.lemmas.Grind.{same_number_lists}
use borrow.Author.Count.{below_more}
use Rattle.kc_graph.specs.Shape.{GraphShape, IsGraph, joined}
use Rattle.kc_graph.proofs.lemmas.Edges.{joined_comm, joined_inside}
use Rattle.kc_levels.specs.Moved.{is_moved}
use Rattle.kc_groups.specs.Links.{AreLinked, Path, IsLabel, AreLabels}
use Rattle.kc_groups.specs.private.Labels.{IsMarked, AreJoined}
use Rattle.kc_groups.specs.Laws.{LabelsAreOne}

linked_back : (g : GraphShape) (moved : ℕ → Bool) (v w : ℕ) → AreLinked g moved v w → AreLinked g moved w v
linked_back g moved v w k = record { from = k.to; to = k.from; edge = joined_comm w v g.edges ∙ k.edge }

linked_below : (g : GraphShape) (moved : ℕ → Bool) (v w : ℕ) → IsGraph g → AreLinked g moved v w → w < g.vertices
linked_below g moved v w graph link = (joined_inside g.vertices 0 0 v w g.edges graph link.edge).1

-- each label is reached and at most its vertex
record IsLabelling (g : GraphShape) (moved : ℕ → Bool) (labels : List ℕ) : Type 0 where
  sized : length labels ≡ g.vertices
  marked : (v : ℕ) → v < g.vertices → moved v ≡ true → IsMarked g moved v (get_or labels v 0)
  none : (v : ℕ) → v < g.vertices → moved v ≡ false → get_or labels v 0 ≡ g.vertices

record IsLess (g : GraphShape) (moved : ℕ → Bool) (labels : List ℕ) (v w : ℕ) : Type 0 where
  link : AreLinked g moved v w
  less : get_or labels w 0 < get_or labels v 0

module _ (g : GraphShape) (moved : ℕ → Bool) (labels : List ℕ) where
  less_or_not : (v w : ℕ) → IsLess g moved labels v w ⊎ (AreLinked g moved v w → get_or labels v 0 ≤ get_or labels w 0)
  less_or_not v w = elim (cases_lt (get_or labels w 0) (get_or labels v 0)) [
    | inr ge ↦ inr (λ l. ge)
    | inl lt ↦ elim (cases_Bool (moved v)) [
      | inr nv ↦ inr (λ l. absurd (true≢false (sym l.from ∙ nv)))
      | inl mv ↦ elim (cases_Bool (moved w)) [
        | inr nw ↦ inr (λ l. absurd (true≢false (sym l.to ∙ nw)))
        | inl mw ↦ elim (cases_Bool (joined v w g.edges)) [
          | inr far ↦ inr (λ l. absurd (true≢false (sym l.edge ∙ far)))
          | inl near ↦ inl (record { link = record { from = mv; to = mw; edge = near }; less = lt })
        ]
      ]
    ]
  ]

  less_at : (v n : ℕ) → ((w : ℕ) × IsLess g moved labels v w) ⊎ ((w : ℕ) → w < n → AreLinked g moved v w → get_or labels v 0 ≤ get_or labels w 0)
  less_at v zero = inr (λ w h. absurd (omega arith))
  less_at v (suc n) = elim (less_at v n) [
    | inl b ↦ inl b
    | inr all ↦ elim (less_or_not v n) [ inl b ↦ inl (n, b) | inr ge ↦ inr (λ w h. below_more (λ u. AreLinked g moved v u → get_or labels v 0 ≤ get_or labels u 0) n all ge w (omega arith)) ]
  ]

  less_below : (n : ℕ) → ((v : ℕ) × (v < n) × ((w : ℕ) × IsLess g moved labels v w)) ⊎ ((v : ℕ) → v < n → (w : ℕ) → w < g.vertices → AreLinked g moved v w → get_or labels v 0 ≤ get_or labels w 0)
  less_below zero = inr (λ v h. absurd (omega arith))
  less_below (suc n) = elim (less_below n) [
    | inl b ↦ inl (b.0, omega (arith, b.1), b.2)
    | inr all ↦ elim (less_at n g.vertices) [
      | inl b ↦ inl (n, omega arith, b)
      | inr ge ↦ inr (λ v h. below_more (λ u. (w : ℕ) → w < g.vertices → AreLinked g moved u w → get_or labels u 0 ≤ get_or labels w 0) n all ge v (omega arith))
    ]
  ]

  module _ (graph : IsGraph g) (f : IsLabelling g moved labels) where
    along : ((v : ℕ) → v < g.vertices → (w : ℕ) → w < g.vertices → AreLinked g moved v w → get_or labels v 0 ≤ get_or labels w 0) → (v w k : ℕ) → v < g.vertices → moved v ≡ true → Path g moved v w k → get_or labels v 0 ≤ w
    along still v w zero h m path = omega (arith, (f.marked v h m).low, path)
    along still v w (suc k) h m path =
        let inside : path.0 < g.vertices = linked_below g moved v path.0 graph path.1 in
        omega (arith, still v h path.0 inside path.1, along still path.0 w k inside path.1.to path.2)

    settled : ((v : ℕ) → v < g.vertices → (w : ℕ) → w < g.vertices → AreLinked g moved v w → get_or labels v 0 ≤ get_or labels w 0) → AreLabels g moved labels
    settled still = record {
      sized = f.sized;
      label = λ v h m. record { reached = (f.marked v h m).reached; least = λ w k path. along still v w k h m path };
      none = f.none;
    }

    lower : (v w : ℕ) → v < g.vertices → IsLess g moved labels v w → IsLabelling g moved (set labels v (get_or labels w 0)) × (sum (set labels v (get_or labels w 0)) < sum labels)
    lower v w h b = (
      record {
        sized = length-set labels v (get_or labels w 0) ∙ f.sized;
        marked = λ u hu m. elim (cases_eq u v) [
          | inl e ↦
              let there = f.marked w (linked_below g moved v w graph b.link) b.link.to in
              let here : IsMarked g moved v (get_or labels w 0) = record { moves = b.link.from; low = omega (arith, b.less, (f.marked v h b.link.from).low); reached = (suc there.reached.0, (w, b.link, there.reached.1)) } in
              subst (λ t. IsMarked g moved t (get_or (set labels v (get_or labels w 0)) t 0)) (sym e) (subst (IsMarked g moved v) (sym (get_or-set_same labels v (get_or labels w 0) 0 inside)) here)
          | inr ne ↦ subst (IsMarked g moved u) (sym (get_or-set_other labels v u (get_or labels w 0) 0 ne)) (f.marked u hu m)
        ];
        none = λ u hu m. elim (cases_eq u v) [ inl e ↦ absurd (true≢false (sym b.link.from ∙ ap moved (sym e) ∙ m)) | inr ne ↦ get_or-set_other labels v u (get_or labels w 0) 0 ne ∙ f.none u hu m ];
      },
      omega (arith, b.less, sum_by-set (λ l. l) labels v (get_or labels w 0) 0 inside),
    )
      where
        inside : v < length labels
        inside = omega (arith, f.sized)

labels_from : (k : ℕ) (g : GraphShape) (moved : ℕ → Bool) (labels : List ℕ) → IsGraph g → IsLabelling g moved labels → sum labels ≤ k → (ls : List ℕ) × AreLabels g moved ls
labels_from zero g moved labels graph f left = elim (less_below g moved labels g.vertices) [
  | inl b ↦ let l = lower g moved labels graph f b.0 b.2.0 b.1 b.2.1 in absurd (omega (arith, l.1))
  | inr all ↦ (labels, settled g moved labels graph f all)
]
labels_from (suc k) g moved labels graph f left = elim (less_below g moved labels g.vertices) [
  | inl b ↦ let l = lower g moved labels graph f b.0 b.2.0 b.1 b.2.1 in labels_from k g moved (set labels b.0 (get_or labels b.2.0 0)) graph l.0 (omega (arith, l.1))
  | inr all ↦ (labels, settled g moved labels graph f all)
]

-- each moved vertex by itself
own_from : (moved : ℕ → Bool) (n k m : ℕ) → List ℕ
own_from moved n k zero = []
own_from moved n k (suc m) = cond (moved k) k n ∷ own_from moved n (suc k) m

length-own : (moved : ℕ → Bool) (n k m : ℕ) → length (own_from moved n k m) ≡ m
unfolding own_from
length-own moved n k zero = refl
length-own moved n k (suc m) = ap suc (length-own moved n (suc k) m)

own_at : (moved : ℕ → Bool) (n k m v : ℕ) → v < m → get_or (own_from moved n k m) v 0 ≡ cond (moved (k + v)) (k + v) n
unfolding own_from
own_at moved n k zero v h = absurd (omega arith)
own_at moved n k (suc m) zero h = let same : k ≡ k + 0 = omega arith in ap (λ u. cond (moved u) u n) same
own_at moved n k (suc m) (suc v) h =
    let same : suc k + v ≡ k + suc v = omega arith in own_at moved n (suc k) m v (omega arith) ∙ ap (λ u. cond (moved u) u n) same

first_labels : (g : GraphShape) (moved : ℕ → Bool) → IsLabelling g moved (own_from moved g.vertices 0 g.vertices)
first_labels g moved = record {
  sized = length-own moved g.vertices 0 g.vertices;
  marked = λ v h m. let own : get_or (own_from moved g.vertices 0 g.vertices) v 0 ≡ v = own_is v h ∙ ap (λ b. cond b v g.vertices) m in rw own (record { moves = m; low = omega arith; reached = (0, refl) });
  none = λ v h m. own_is v h ∙ ap (λ b. cond b v g.vertices) m;
}
  where
    own_is : (v : ℕ) → v < g.vertices → get_or (own_from moved g.vertices 0 g.vertices) v 0 ≡ cond (moved v) v g.vertices
    own_is v h = let same : 0 + v ≡ v = omega arith in own_at moved g.vertices 0 g.vertices v h ∙ ap (λ u. cond (moved u) u g.vertices) same

pub labels_exist : (g : GraphShape) (moved : ℕ → Bool) → IsGraph g → (labels : List ℕ) × AreLabels g moved labels
labels_exist g moved graph = labels_from (sum (own_from moved g.vertices 0 g.vertices)) g moved (own_from moved g.vertices 0 g.vertices) graph (first_labels g moved) (omega arith)

pub labels_one : (g : GraphShape) (moved : ℕ → Bool) (labels labels' : List ℕ) → AreLabels g moved labels → AreLabels g moved labels' → labels ≡ labels'
labels_one g moved labels labels' l l' =
    same_number_lists labels labels' (l.sized ∙ sym l'.sized) (λ v h. at v (omega (arith, l.sized)))
  where
    at : (v : ℕ) → v < g.vertices → get_or labels v 0 ≡ get_or labels' v 0
    at v h = elim (cases_Bool (moved v)) [
      | inl yes_ ↦
          let one = l.label v h yes_ in
          let two = l'.label v h yes_ in
          omega (arith, one.least (get_or labels' v 0) two.reached.0 two.reached.1, two.least (get_or labels v 0) one.reached.0 one.reached.1)
      | inr no_ ↦ l.none v h no_ ∙ sym (l'.none v h no_)
    ]

pub labels_are_one : LabelsAreOne
labels_are_one g x y graph =
    let some = labels_exist g (is_moved x y) graph in
    (some.0, (some.1, λ others are. labels_one g (is_moved x y) others some.0 are some.1))

-- two paths in a row
path_append : (g : GraphShape) (moved : ℕ → Bool) (v u w j k : ℕ) → Path g moved v u j → Path g moved u w k → (m : ℕ) × Path g moved v w m
path_append g moved v u w zero k p q = (k, subst (λ t. Path g moved t w k) (sym p) q)
path_append g moved v u w (suc j) k p q = let rest = path_append g moved p.0 u w j k p.2 q in (suc rest.0, (p.0, p.1, rest.1))

-- a path from a vertex that moves ends at one
path_moves : (g : GraphShape) (moved : ℕ → Bool) (v w k : ℕ) → IsGraph g → v < g.vertices → moved v ≡ true → Path g moved v w k → (w < g.vertices) × (moved w ≡ true)
path_moves g moved v w zero graph h m p = rw (sym p) (h, m)
path_moves g moved v w (suc k) graph h m p = path_moves g moved p.0 w k graph (linked_below g moved v p.0 graph p.1) p.1.to p.2

-- a vertex has one label
pub label_one : (g : GraphShape) (moved : ℕ → Bool) (v l m : ℕ) → IsLabel g moved v l → IsLabel g moved v m → l ≡ m
label_one g moved v l m a b = omega (arith, a.least m b.reached.0 b.reached.1, b.least l a.reached.0 a.reached.1)

-- a label is its own label, and linked vertices have one label
pub labels_joined : (g : GraphShape) (moved : ℕ → Bool) (labels : List ℕ) → IsGraph g → AreLabels g moved labels → AreJoined g moved labels
labels_joined g moved labels graph a = record {
  root = λ v h m.
      let own = a.label v h m in
      let there = path_moves g moved v (get_or labels v 0) own.reached.0 graph h m own.reached.1 in
      let label : IsLabel g moved (get_or labels v 0) (get_or labels v 0) = record {
        reached = (0, refl);
        least = λ w k p. let way = path_append g moved v (get_or labels v 0) w own.reached.0 k own.reached.1 p in own.least w way.0 way.1;
      } in
      (there.0, label_one g moved (get_or labels v 0) (get_or labels (get_or labels v 0) 0) (get_or labels v 0) (a.label (get_or labels v 0) there.0 there.1) label);
  one = λ v w h link.
      let at_v = a.label v h link.from in
      let at_w = a.label w (linked_below g moved v w graph link) link.to in
      omega (
        arith,
        at_v.least (get_or labels w 0) (suc at_w.reached.0) (w, link, at_w.reached.1),
        at_w.least (get_or labels v 0) (suc at_v.reached.0) (v, linked_back g moved v w link, at_v.reached.1),
      );
}
