-- Lemmas on ascending lists of edges.
use Rattle.std.proofs.Common.{ℕ, suc, ◌+◌, ◌≤◌, ◌<◌, ◌≡◌, true, false, ◌||◌, ◌&&◌, List, [], ◌∷◌, ◌++◌, length, refl, ap, sym, ◌∙◌, arith, subst}
use Rattle.std.proofs.lemmas.Bool.Decides.{nat_tests}
use Rattle.std.specs.Prelude.{not}
use Rattle.kc_graph.specs.Shape.{GraphShape, Pair, IsNotBefore, EdgesFrom, IsGraph, same_edge, has_edge, joined, insert_edge, remove_edge}

-- EdgesFrom

-- every pair is at or after the first
pub not_before_first : (e : Pair) → IsNotBefore 0 0 e
not_before_first e = grind (arith, nat_tests)

pub edges_from_weaker : (n a b c d : ℕ) (es : List Pair) → IsNotBefore a b (c, d) → EdgesFrom n c d es → EdgesFrom n a b es
edges_from_weaker n a b c d [] w up = tt
edges_from_weaker n a b c d (e ∷ es) w up = grind (arith, nat_tests, up.1, up.2, up.3, up.0)

-- ascending edges have none that is before their start
pub has_edge_before : (n c d : ℕ) (e : Pair) (es : List Pair) → EdgesFrom n c d es → IsNotBefore e.0 (suc e.1) (c, d) → has_edge e es ≡ false
has_edge_before n c d e [] up w = refl
has_edge_before n c d e (f ∷ fs) up w =
    let later : IsNotBefore e.0 (suc e.1) (f.0, suc f.1) = grind (arith, up.0, w) in
    let rest : has_edge e fs ≡ false = has_edge_before n f.0 (suc f.1) e fs up.3 later in
    grind (arith, nat_tests, up.0, w)

-- edges have their lesser vertex first
pub has_edge_turned : (n c d a b : ℕ) (es : List Pair) → EdgesFrom n c d es → a ≤ b → has_edge (b, a) es ≡ false
has_edge_turned n c d a b [] up h = refl
has_edge_turned n c d a b (f ∷ fs) up h = grind (arith, nat_tests, up.1, has_edge_turned n f.0 (suc f.1) a b fs up.3)

-- an edge of a graph has its lesser vertex first and its vertices below n
pub edge_inside : (n c d : ℕ) (e : Pair) (es : List Pair) → EdgesFrom n c d es → has_edge e es ≡ true → (e.0 < e.1) × (e.1 < n)
edge_inside n c d e [] up there = absurd (cc)
edge_inside n c d e (f ∷ fs) up there = grind (arith, nat_tests, edge_inside n f.0 (suc f.1) e fs up.3, up.3, up.1, up.2)

pub has_edge-insert_edge : (e f : Pair) (es : List Pair) → has_edge f (insert_edge e es) ≡ same_edge f e || has_edge f es
has_edge-insert_edge e f [] = refl
has_edge-insert_edge e f (d ∷ ds) = grind (arith, nat_tests, has_edge-insert_edge e f ds)

pub edges_from_insert : (n c d : ℕ) (e : Pair) (es : List Pair) → IsNotBefore c d e → e.0 < e.1 → e.1 < n → EdgesFrom n c d es → EdgesFrom n c d (insert_edge e es)
edges_from_insert n c d e [] w h below up = (w, h, below, tt)
edges_from_insert n c d e (f ∷ fs) w h below up =
    grind (arith, nat_tests, up.0, edges_from_insert n f.0 (suc f.1) e fs)

pub length-insert_edge : (e : Pair) (es : List Pair) → has_edge e es ≡ false → length (insert_edge e es) ≡ length es + 1
length-insert_edge e [] absent = omega arith
length-insert_edge e (f ∷ fs) absent = grind (arith, nat_tests, absent, length-insert_edge e fs)

-- remove_edge

pub has_edge-remove_edge : (e f : Pair) (es : List Pair) → has_edge f (remove_edge e es) ≡ not (same_edge f e) && has_edge f es
has_edge-remove_edge e f [] = grind (arith, nat_tests)
has_edge-remove_edge e f (d ∷ ds) = grind (arith, nat_tests, has_edge-remove_edge e f ds)

pub edges_from_remove : (n c d : ℕ) (e : Pair) (es : List Pair) → EdgesFrom n c d es → EdgesFrom n c d (remove_edge e es)
edges_from_remove n c d e [] up = tt
edges_from_remove n c d e (f ∷ fs) up = grind (arith, nat_tests, edges_from_remove n f.0 (suc f.1) e fs up.3, edges_from_weaker, up.3, up.0, up.1, up.2)

pub remove_edge_absent : (e : Pair) (es : List Pair) → has_edge e es ≡ false → remove_edge e es ≡ es
remove_edge_absent e [] absent = refl
remove_edge_absent e (f ∷ fs) absent = grind (arith, nat_tests, absent, remove_edge_absent e fs)

pub length-remove_edge : (n c d : ℕ) (e : Pair) (es : List Pair) → EdgesFrom n c d es → has_edge e es ≡ true → length (remove_edge e es) + 1 ≡ length es
length-remove_edge n c d e [] up there = absurd (cc)
length-remove_edge n c d e (f ∷ fs) up there =
    grind (arith, nat_tests, there, length-remove_edge n f.0 (suc f.1) e fs up.3, remove_edge_absent e fs, has_edge_before n f.0 (suc f.1) e fs up.3)

-- joined

pub joined_comm : (v w : ℕ) (es : List Pair) → joined v w es ≡ joined w v es
joined_comm v w es = grind (arith, nat_tests)

-- no vertex shares an edge with itself
pub joined_itself : (n c d v : ℕ) (es : List Pair) → EdgesFrom n c d es → joined v v es ≡ false
joined_itself n c d v es up = rw (has_edge_turned n c d v v es up (omega arith)) refl

pub joined_in_order : (n c d a b : ℕ) (es : List Pair) → EdgesFrom n c d es → a ≤ b → joined a b es ≡ has_edge (a, b) es
joined_in_order n c d a b es up h = grind (arith, nat_tests, has_edge_turned)

-- the vertices of an edge are below n
pub joined_inside : (n c d v w : ℕ) (es : List Pair) → EdgesFrom n c d es → joined v w es ≡ true → (v < n) × (w < n)
joined_inside n c d v w es up there = grind (arith, nat_tests, edge_inside)

-- the edge that ends a beginning of ascending edges
pub edges_from_at : (n c d : ℕ) (es : List Pair) (e : Pair) (rest : List Pair) → EdgesFrom n c d (es ++ e ∷ rest) → IsNotBefore c d e
edges_from_at n c d [] e rest up = up.0
edges_from_at n c d (f ∷ fs) e rest up =
    let later : IsNotBefore f.0 (suc f.1) e = edges_from_at n f.0 (suc f.1) fs e rest up.3 in
    grind (arith, up.0)

-- an edge after all others comes in at the end
pub insert_edge_last : (n c d : ℕ) (es : List Pair) (e : Pair) (rest : List Pair) → EdgesFrom n c d (es ++ e ∷ rest) → insert_edge e es ≡ es ++ e ∷ []
insert_edge_last n c d [] e rest up = refl
insert_edge_last n c d (f ∷ fs) e rest up = grind (arith, nat_tests, insert_edge_last n f.0 (suc f.1) fs e rest up.3, edges_from_at, up.3)

pub same_pair : (e f : Pair) → e.0 ≡ f.0 → e.1 ≡ f.1 → e ≡ f
same_pair e f first second = ap (λ (a : ℕ). (a, e.1)) first ∙ ap (λ (b : ℕ). (f.0, b)) second

-- two ascending lists that begin with e and with f and have the same edges: e and f are one
same_first : (n c d : ℕ) (e f : Pair) (es fs : List Pair) → EdgesFrom n c d (e ∷ es) → EdgesFrom n c d (f ∷ fs) → has_edge e (f ∷ fs) ≡ true → has_edge f (e ∷ es) ≡ true → e ≡ f
same_first n c d e f es fs up vp e_there f_there = grind (arith, nat_tests, has_edge_before, same_pair, vp.3, up.3)

-- ascending edges are told by which edges are among them
pub same_edges : (n c d : ℕ) (es fs : List Pair) → EdgesFrom n c d es → EdgesFrom n c d fs → ((e : Pair) → has_edge e es ≡ has_edge e fs) → es ≡ fs
same_edges n c d [] [] up vp same = refl
same_edges n c d [] (f ∷ fs) up vp same = absurd (let e = same f in grind (arith, nat_tests, e))
same_edges n c d (e ∷ es) [] up vp same = absurd (let f = same e in grind (arith, nat_tests, f))
same_edges n c d (e ∷ es) (f ∷ fs) up vp same =
    let first : e ≡ f = same_first n c d e f es fs up vp (sym (same e) ∙ has_first e es) (same f ∙ has_first f fs) in
    let later : EdgesFrom n e.0 (suc e.1) fs = subst (λ (g : Pair). EdgesFrom n g.0 (suc g.1) fs) (sym first) vp.3 in
    let rest : (g : Pair) → has_edge g es ≡ has_edge g fs = λ g. rest_at g first later in
    ap (λ (g : Pair). g ∷ es) first ∙ ap (λ (gs : List Pair). f ∷ gs) (same_edges n e.0 (suc e.1) es fs up.3 later rest)
  where
    has_first : (g : Pair) (gs : List Pair) → has_edge g (g ∷ gs) ≡ true
    has_first g gs = grind (arith, nat_tests)

    rest_at : (g : Pair) → e ≡ f → EdgesFrom n e.0 (suc e.1) fs → has_edge g es ≡ has_edge g fs
    rest_at g first later = grind (arith, nat_tests, has_edge_before, up.3)

pub same_graph : (g h : GraphShape) → IsGraph g → IsGraph h → g.vertices ≡ h.vertices → ((e : Pair) → has_edge e g.edges ≡ has_edge e h.edges) → g ≡ h
same_graph g h is_g is_h size same =
    let edges : g.edges ≡ h.edges = same_edges g.vertices 0 0 g.edges h.edges is_g (subst (λ (n : ℕ). EdgesFrom n 0 0 h.edges) (sym size) is_h) same in
    ap (λ (es : List Pair). record { vertices = g.vertices; edges = es }) edges ∙ ap (λ (n : ℕ). record { vertices = n; edges = h.edges }) size
