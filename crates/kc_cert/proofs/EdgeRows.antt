-- The edges of a graph, row by row.
use Rattle.std.proofs.Common.{ℕ, suc, ◌+◌, ◌≤◌, ◌<◌, ◌≡◌, ◌==◌, true, false, List, [], ◌∷◌, ◌++◌, map, refl, ap, arith}
use Rattle.std.specs.Prelude.{filter, nat_le}
use Rattle.std.proofs.lemmas.Bool.Decides.{nat_tests}
use Rattle.kc_graph.specs.Shape.{Pair, EdgesFrom, neighbours_of}
use Rattle.kc_text.specs.Printing.{printed}
use Rattle.kc_cert.specs.Texts.{edge_line}
use Rattle.kc_cert.specs.private.Texts.{row_lines}
use Rattle.kc_cert.proofs.LineTexts.{printed_append, printed_none}

-- the edges whose lesser vertex is v or greater
abbrev pub edges_from : ℕ → List Pair → List Pair
edges_from v es = filter (λ e. nat_le v e.0) es

pub all_edges : (es : List Pair) → edges_from 0 es ≡ es
all_edges [] = refl
all_edges (e ∷ es) = let h : nat_le 0 e.0 ≡ true = grind (arith, nat_tests) in rw h (ap (λ (fs : List Pair). e ∷ fs) (all_edges es))

-- beyond the last vertex there are none
no_edges : (n c d v : ℕ) (es : List Pair) → n ≤ v → EdgesFrom n c d es → edges_from v es ≡ []
no_edges n c d v [] le up = refl
no_edges n c d v (e ∷ es) le up = let h : nat_le v e.0 ≡ false = grind (arith, nat_tests, le, up.1, up.2) in rw h (no_edges n e.0 (suc e.1) v es le up.3)

-- a vertex before all edges
none_here : (n c d v : ℕ) (es : List Pair) → EdgesFrom n c d es → v < c → row_lines v (neighbours_of v es) ≡ []
none_here n c d v [] up lt = refl
none_here n c d v (e ∷ es) up lt =
    let from : c ≤ e.0 = grind (arith, up.0) in
    let first : (e.0 == v) ≡ false = grind (arith, nat_tests, from, lt) in
    let second : (e.1 == v) ≡ false = grind (arith, nat_tests, from, lt, up.1) in
    rw (first, second) (none_here n e.0 (suc e.1) v es up.3 (omega (arith, from, lt)))

-- the edges of v to greater vertices, and then those of the vertices after it
pub edges_at : (n c d v : ℕ) (es : List Pair) → EdgesFrom n c d es → map edge_line (edges_from v es) ≡ row_lines v (neighbours_of v es) ++ map edge_line (edges_from (v + 1) es)
edges_at n c d v [] up = refl
edges_at n c d v (e ∷ es) up = grind (arith, nat_tests, edges_at n e.0 (suc e.1) v es up.3, none_here, up.1, up.3)

pub last_printed : (n v : ℕ) (es : List Pair) → n ≤ v → EdgesFrom n 0 0 es → printed (map edge_line (edges_from v es)) ≡ []
last_printed n v es le up = rw (no_edges n 0 0 v es le up) printed_none

pub row_printed : (n v : ℕ) (es : List Pair) (row : List ℕ) → EdgesFrom n 0 0 es → row ≡ neighbours_of v es → printed (map edge_line (edges_from v es)) ≡ printed (row_lines v row) ++ printed (map edge_line (edges_from (v + 1) es))
row_printed n v es row up e = grind (arith, nat_tests, edges_at, printed_append)
