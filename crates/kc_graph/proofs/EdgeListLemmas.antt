-- Lemmas on lists of edges.
use Rattle.std.proofs.Common.{ℕ, suc, ◌≡◌, ◌-◌, Bool, true, false, ◌||◌, ◌&&◌, List, [], ◌∷◌, length, refl, arith}
use Rattle.std.proofs.lemmas.Bool.Decides.{nat_tests}
use Rattle.std.proofs.lemmas.List.Elements.{All-nil, All-cons, All-head, All-tail}
use Rattle.std.specs.Prelude.{All, filter, slice_get}
use native.Mathlib.Numerals.{unary_clauses}
use Rattle.kc_graph.specs.Shape.{Pair, EdgesFrom, same_edge, has_edge}
use Rattle.kc_graph.specs.EdgeLists.{last_edge}
use Rattle.kc_graph.proofs.EdgeLemmas.{edges_from_weaker, same_pair}

pub last_edge_at : (es : List Pair) → last_edge es ≡ slice_get es (length es - 1)
last_edge_at [] = refl
last_edge_at (e ∷ []) = refl
last_edge_at (e ∷ f ∷ es) = simp unary_clauses (simp unary_clauses at (last_edge_at (f ∷ es)))

-- edges that pass a test

pub edge_is : (e f : Pair) → same_edge e f ≡ true → e ≡ f
edge_is e f same = same_pair e f (grind (arith, nat_tests, same)) (grind (arith, nat_tests, same))

pub has_edge-filter : (e : Pair) (p : Pair → Bool) (es : List Pair) → has_edge e (filter p es) ≡ (p e && has_edge e es)
has_edge-filter e p [] = grind (arith, nat_tests)
has_edge-filter e p (f ∷ fs) = grind (arith, nat_tests, has_edge-filter e p fs, edge_is)

pub edges_from_filter : (n c d : ℕ) (p : Pair → Bool) (es : List Pair) → EdgesFrom n c d es → EdgesFrom n c d (filter p es)
edges_from_filter n c d p [] up = tt
edges_from_filter n c d p (f ∷ fs) up = grind (arith, nat_tests, edges_from_filter n f.0 (suc f.1) p fs up.3, edges_from_weaker, up.3, up.0, up.1, up.2)

-- what holds of each edge of a list, by place or by membership

pub all_there : (es : List Pair) (P : Pair → Type 0) → ((e : Pair) → has_edge e es ≡ true → P e) → All P es
all_there [] P there = All-nil P
all_there (e ∷ es) P there =
    All-cons P e es (there e (grind (arith, nat_tests))) (all_there es P (λ f h. there f (rw h (or_true (same_edge f e)))))
  where
    or_true : (b : Bool) → (b || true) ≡ true
    or_true true = refl
    or_true false = refl

pub all_at : (es : List Pair) (P : Pair → Type 0) → All P es → (e : Pair) → has_edge e es ≡ true → P e
all_at [] P all e there = absurd (cc)
all_at (f ∷ fs) P all e there = go (same_edge e f) refl there (all_at fs P (All-tail P f fs all) e)
  where
    go : (b : Bool) → same_edge e f ≡ b → (b || has_edge e fs) ≡ true → (has_edge e fs ≡ true → P e) → P e
    go true is t rest = rw (edge_is e f is) (All-head P f fs all)
    go false is t rest = rest t
