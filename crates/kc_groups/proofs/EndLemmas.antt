-- The labels of the ends of an edge.
use Rattle.std.proofs.Common.{ℕ, ◌≤◌, ◌<◌, ◌≡◌, ◌≢◌, ◌⊎◌, inl, inr, Bool, true, false, cond, ◌&&◌, not, List, get_or, refl, ◌∙◌, arith}
use Rattle.std.proofs.lemmas.Bool.Decides.{nat_tests}
use Rattle.std.proofs.lemmas.Grind.{common_steps}
use Rattle.kc_graph.specs.Shape.{GraphShape, Pair, IsGraph, has_edge}
use Rattle.kc_graph.proofs.lemmas.Edges.{edge_inside, joined_in_order}
use Rattle.kc_levels.specs.Moved.{is_moved}
use Rattle.kc_groups.specs.Links.{AreLabels}
use Rattle.kc_groups.specs.private.Labels.{AreJoined, AreRooted}
use Rattle.kc_groups.specs.Entries.{ends_at, is_quiet}

-- the ends of an edge have one label where both move
pub record IsJoined (n : ℕ) (moved : ℕ → Bool) (labels : List ℕ) (e : Pair) : Type 0 where
  pub order : e.0 < e.1
  pub inside : e.1 < n
  pub one : moved e.0 ≡ true → moved e.1 ≡ true → get_or labels e.1 0 ≡ get_or labels e.0 0

-- the label of an end that moves, if there is one
abbrev pub edge_label : List ℕ → List ℕ → List ℕ → Pair → ℕ
edge_label x y labels e = cond (is_moved x y e.0) (get_or labels e.0 0) (get_or labels e.1 0)

-- which groups an edge is at
pub record IsAt (n label a b : ℕ) : Type 0 where
  pub first : (a ≡ label) ⊎ (a ≡ n)
  pub second : (b ≡ label) ⊎ (b ≡ n)
  pub either : (a ≡ label) ⊎ (b ≡ label)

pub is_at : (n : ℕ) (x y labels : List ℕ) (e : Pair) → AreRooted n (is_moved x y) labels → IsJoined n (is_moved x y) labels e → IsAt n (edge_label x y labels e) (get_or labels e.0 0) (get_or labels e.1 0)
is_at n x y labels e r j = go (is_moved x y e.0) (is_moved x y e.1) refl refl
  where
    go : (a b : Bool) → is_moved x y e.0 ≡ a → is_moved x y e.1 ≡ b → IsAt n (cond a (get_or labels e.0 0) (get_or labels e.1 0)) (get_or labels e.0 0) (get_or labels e.1 0)
    go true true ea eb = record { first = inl refl; second = inl (j.one ea eb); either = inl refl }
    go true false ea eb = record { first = inl refl; second = inr (r.none e.1 j.inside eb); either = inl refl }
    go false b ea eb = record { first = inr (r.none e.0 (omega (arith, j.order, j.inside)) ea); second = inl refl; either = inr refl }

pub ends_yes : (n label : ℕ) (labels : List ℕ) (e : Pair) → IsAt n label (get_or labels e.0 0) (get_or labels e.1 0) → ends_at labels label e ≡ true
ends_yes n label labels e at = grind (arith, nat_tests, at.either)

pub ends_no : (n label l : ℕ) (labels : List ℕ) (e : Pair) → IsAt n label (get_or labels e.0 0) (get_or labels e.1 0) → l < n → l ≢ label → ends_at labels l e ≡ false
ends_no n label l labels e at low ne = grind (arith, nat_tests, at.first, at.second)

-- the label of the edge is a label, or no end of it moved
pub label_root : (n : ℕ) (x y labels : List ℕ) (e : Pair) → AreRooted n (is_moved x y) labels → IsJoined n (is_moved x y) labels e → edge_label x y labels e < n → (get_or labels (edge_label x y labels e) 0 ≡ edge_label x y labels e) × (is_quiet x y e ≡ false)
label_root n x y labels e r j = go (is_moved x y e.0) (is_moved x y e.1) refl refl
  where
    go : (a b : Bool) → is_moved x y e.0 ≡ a → is_moved x y e.1 ≡ b → cond a (get_or labels e.0 0) (get_or labels e.1 0) < n → (get_or labels (cond a (get_or labels e.0 0) (get_or labels e.1 0)) 0 ≡ cond a (get_or labels e.0 0) (get_or labels e.1 0)) × (not a && not b ≡ false)
    go true b ea eb low = ((r.root e.0 (omega (arith, j.order, j.inside)) ea).1, refl)
    go false true ea eb low = ((r.root e.1 j.inside eb).1, refl)
    go false false ea eb low = absurd (omega (arith, r.none e.1 j.inside eb))

pub label_none : (n : ℕ) (x y labels : List ℕ) (e : Pair) → AreRooted n (is_moved x y) labels → IsJoined n (is_moved x y) labels e → n ≤ edge_label x y labels e → is_quiet x y e ≡ true
label_none n x y labels e r j = grind (arith, nat_tests, common_steps, r.root, j.order, j.inside)

pub edge_joined : (g : GraphShape) (moved : ℕ → Bool) (labels : List ℕ) (e : Pair) → IsGraph g → AreJoined g moved labels → has_edge e g.edges ≡ true → IsJoined g.vertices moved labels e
edge_joined g moved labels e graph joined h =
    let bounds = edge_inside g.vertices 0 0 e g.edges graph h in
    record {
      order = bounds.0;
      inside = bounds.1;
      one = λ a b. joined.one e.0 e.1 (omega (arith, bounds.0, bounds.1)) (record { from = a; to = b; edge = joined_in_order g.vertices 0 0 e.0 e.1 g.edges graph (omega (arith, bounds.0)) ∙ h });
    }

pub rooted : (g : GraphShape) (moved : ℕ → Bool) (labels : List ℕ) → AreLabels g moved labels → AreJoined g moved labels → AreRooted g.vertices moved labels
rooted g moved labels l j = record { sized = l.sized; root = j.root; low = λ v h m. (l.label v h m).least v 0 refl; none = l.none }
