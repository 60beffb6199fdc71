-- Each edge of a phase is in one entry.
use Rattle.std.proofs.Common.{ℕ, suc, ◌+◌, ◌<◌, ◌≡◌, ◌≢◌, inl, inr, Bool, true, false, cond, List, [], ◌∷◌, map, filter, refl, ap, sym, ◌∙◌, arith}
use Rattle.std.specs.Prelude.{count_by}
use Rattle.std.proofs.lemmas.Bool.{cases_eq, cases_lt, cases_Bool}
use Rattle.std.proofs.lemmas.Bool.Decides.{nat_tests}
use Rattle.std.proofs.lemmas.List.Elements.{All-head, All-tail}
use Rattle.std.proofs.lemmas.Grind.{common_steps}
use Rattle.kc_graph.specs.Numbers.{RisesFrom, AllBelow, has_number}
use Rattle.kc_graph.specs.Shape.{GraphShape, Pair, has_edge, same_edge}
use Rattle.kc_graph.specs.Changes.{AllPresent}
use Rattle.kc_graph.proofs.lemmas.Counts.{count_by-cons}
use Rattle.kc_graph.proofs.lemmas.Edges.{has_edge-filter, edge_is}
use Rattle.kc_levels.specs.Moved.{is_moved}
use Rattle.kc_history.specs.declared.entries.Entry.{Entry}
use Rattle.kc_groups.specs.Entries.{labels_below, group_entry, quiet_entry, ends_at, is_quiet}
use Rattle.kc_groups.specs.Laws.{EdgesAreDealtOnce}
use Rattle.kc_groups.specs.private.Labels.{AreRooted}
use Rattle.kc_groups.proofs.LabelLaw.{labels_joined}
use Rattle.kc_groups.proofs.ListLemmas.{labels_rise, has_label}
use Rattle.kc_groups.proofs.EndLemmas.{IsJoined, edge_label, edge_joined, rooted, is_at, ends_yes, ends_no, label_root, label_none}

pub counted : (p : Entry → Bool) (b : Bool) (e : Entry) (es : List Entry) → p e ≡ b → count_by p (e ∷ es) ≡ cond b 1 0 + count_by p es
counted p b e es h = count_by-cons p e es ∙ ap (λ (t : Bool). cond t 1 0 + count_by p es) h

count_none : (p : Entry → Bool) (of : ℕ → Entry) (n : ℕ) (rs : List ℕ) → AllBelow n rs → ((r : ℕ) → r < n → p (of r) ≡ false) → count_by p (map of rs) ≡ 0
count_none p of n [] below f = refl
count_none p of n (r ∷ rs) below f = omega (arith, counted p false (of r) (map of rs) (f r below.0), count_none p of n rs below.1 f)

count_none_above : (p : Entry → Bool) (of : ℕ → Entry) (n l low : ℕ) (rs : List ℕ) → RisesFrom low rs → l < low → AllBelow n rs → ((r : ℕ) → r < n → r ≢ l → p (of r) ≡ false) → count_by p (map of rs) ≡ 0
count_none_above p of n l low [] up h below f = refl
count_none_above p of n l low (r ∷ rs) up h below f = grind (arith, nat_tests, common_steps, count_none_above p of n l (suc r) rs up.1 (omega (arith, up.0)) below.1 f, counted, below.0, up.0, up.1, below.1)

count_one : (p : Entry → Bool) (of : ℕ → Entry) (n l low : ℕ) (rs : List ℕ) → RisesFrom low rs → AllBelow n rs → has_number l rs ≡ true → p (of l) ≡ true → ((r : ℕ) → r < n → r ≢ l → p (of r) ≡ false) → count_by p (map of rs) ≡ 1
count_one p of n l low [] up below has yes_ f = grind (arith, nat_tests, has)
count_one p of n l low (r ∷ rs) up below has yes_ f = elim (cases_eq r l) [
  | inl same ↦ omega (arith, counted p true (of r) (map of rs) (ap (λ t. p (of t)) same ∙ yes_), count_none_above p of n l (suc r) rs up.1 (omega arith) below.1 f)
  | inr ne ↦ omega (arith, counted p false (of r) (map of rs) (f r below.0 ne), count_one p of n l (suc r) rs up.1 below.1 (grind (arith, nat_tests, has, ne)) yes_ f)
]

-- an edge of a list is at a place of it
pub present_in : (g : GraphShape) (e : Pair) (edges : List Pair) → AllPresent g edges → has_edge e edges ≡ true → has_edge e g.edges ≡ true
present_in g e [] all has = grind (arith, nat_tests, has)
present_in g e (f ∷ fs) all has = elim (cases_Bool (same_edge e f)) [
  | inl same ↦ ap (λ (t : Pair). has_edge t g.edges) (edge_is e f same) ∙ All-head (λ t. has_edge t g.edges ≡ true) f fs all
  | inr other ↦ present_in g e fs (All-tail (λ t. has_edge t g.edges ≡ true) f fs all) (grind (arith, nat_tests, has, other))
]

module _ (phase : ℕ) (add : Bool) (edges : List Pair) (x y labels : List ℕ) (g : GraphShape) (e : Pair) where
  abbrev of : ℕ → Entry
  of = group_entry phase add edges x y labels g.vertices

  abbrev roots : List ℕ
  roots = labels_below labels g.vertices

  abbrev holds : Entry → Bool
  holds t = has_edge e t.edges

  in_group : (b : Bool) (l : ℕ) → has_edge e edges ≡ true → ends_at labels l e ≡ b → has_edge e (filter (ends_at labels l) edges) ≡ b
  in_group b l has at = has_edge-filter e (ends_at labels l) edges ∙ grind (arith, nat_tests, has, at)

  in_quiet : (b : Bool) → has_edge e edges ≡ true → is_quiet x y e ≡ b → has_edge e (filter (is_quiet x y) edges) ≡ b
  in_quiet b has at = has_edge-filter e (is_quiet x y) edges ∙ grind (arith, nat_tests, has, at)

  dealt : (r : AreRooted g.vertices (is_moved x y) labels) (j : IsJoined g.vertices (is_moved x y) labels e) → has_edge e edges ≡ true → count_by (λ (t : Entry). has_edge e t.edges) (quiet_entry phase add edges x y ∷ map of (labels_below labels g.vertices)) ≡ 1
  dealt r j has = elim (cases_lt (edge_label x y labels e) g.vertices) [
    | inl low ↦
        let root = label_root g.vertices x y labels e r j low in
        let at = is_at g.vertices x y labels e r j in
        omega (
          arith,
          counted holds false (quiet_entry phase add edges x y) (map of roots) (in_quiet false has root.1),
          count_one holds of g.vertices (edge_label x y labels e) 0 roots (labels_rise labels g.vertices).0 (labels_rise labels g.vertices).1 (has_label labels g.vertices (edge_label x y labels e) low root.0)
              (in_group true (edge_label x y labels e) has (ends_yes g.vertices (edge_label x y labels e) labels e at))
              (λ l inside ne. in_group false l has (ends_no g.vertices (edge_label x y labels e) l labels e at inside ne)),
        )
    | inr high ↦
        let at = is_at g.vertices x y labels e r j in
        omega (
          arith,
          counted holds true (quiet_entry phase add edges x y) (map of roots) (in_quiet true has (label_none g.vertices x y labels e r j high)),
          count_none holds of g.vertices roots (labels_rise labels g.vertices).1
              (λ l inside. in_group false l has (ends_no g.vertices (edge_label x y labels e) l labels e at inside (λ same. absurd (omega arith)))),
        )
  ]

  out : has_edge e edges ≡ false → count_by (λ (t : Entry). has_edge e t.edges) (quiet_entry phase add edges x y ∷ map of (labels_below labels g.vertices)) ≡ 0
  out none =
      omega (
        arith,
        counted holds false (quiet_entry phase add edges x y) (map of roots) (has_edge-filter e (is_quiet x y) edges ∙ grind (arith, nat_tests, none)),
        count_none holds of g.vertices roots (labels_rise labels g.vertices).1 (λ l inside. has_edge-filter e (ends_at labels l) edges ∙ grind (arith, nat_tests, none)),
      )

pub edges_are_dealt_once : EdgesAreDealtOnce
edges_are_dealt_once phase add edges x y g plan e is a =
    rw (a.quiet, a.groups)
    (elim (cases_Bool (has_edge e edges)) [
      | inl has ↦
          let joined = labels_joined g (is_moved x y) a.labels is.graph a.are_labels in
          dealt phase add edges x y a.labels g e (rooted g (is_moved x y) a.labels a.are_labels joined) (edge_joined g (is_moved x y) a.labels e is.graph joined (present_in g e edges is.present has)) has
          ∙ sym (ap (λ (b : Bool). let k : ℕ = cond b 1 0 in k) has)
      | inr none ↦ out phase add edges x y a.labels g e none ∙ sym (ap (λ (b : Bool). let k : ℕ = cond b 1 0 in k) none)
    ])
