-- What a number put into a row, or taken out of it, does to the edges that the rows stand for.
use Rattle.std.proofs.Common.{ℕ, suc, zero, ◌+◌, ◌≤◌, ◌<◌, ◌≡◌, ◌≢◌, List, [], ◌∷◌, ◌++◌, length, get_or, set, refl, ap, arith, replicate}
use Rattle.std.proofs.lemmas.Bool.Decides.{nat_tests}
use Rattle.std.proofs.lemmas.List.Elements.{filter-append}
use Rattle.kc_graph.specs.private.Numbers.{put, without}
use Rattle.kc_graph.specs.Shape.{Pair, insert_edge, remove_edge}
use Rattle.kc_graph.specs.KeptRows.{edges_at, edges_of}

pub edges_of_empty : (from n : ℕ) → edges_of from (replicate n []) ≡ []
edges_of_empty from zero = refl
edges_of_empty from (suc n) = edges_of_empty (suc from) n

-- a row that gains a number above its vertex, and one that gains a number not above it
edges_at_put : (a b : ℕ) (row : List ℕ) → a < b → edges_at a (put b row) ≡ insert_edge (a, b) (edges_at a row)
edges_at_put a b [] h = grind (arith, nat_tests)
edges_at_put a b (c ∷ cs) h = grind (arith, nat_tests, edges_at_put a b cs h)

edges_at_put_below : (a b : ℕ) (row : List ℕ) → b ≤ a → edges_at a (put b row) ≡ edges_at a row
edges_at_put_below a b [] h = grind (arith, nat_tests)
edges_at_put_below a b (c ∷ cs) h = grind (arith, nat_tests, edges_at_put_below a b cs h)

-- an edge goes past the edges of a lesser row
insert_edge_past : (e : Pair) (a : ℕ) (row : List ℕ) (rest : List Pair) → a < e.0 → insert_edge e (edges_at a row ++ rest) ≡ edges_at a row ++ insert_edge e rest
insert_edge_past e a [] rest h = refl
insert_edge_past e a (c ∷ cs) rest h = grind (arith, nat_tests, insert_edge_past e a cs rest h)

-- an edge goes before the edges of the greater rows
insert_edge_first_at : (e : Pair) (a : ℕ) (row : List ℕ) (rest : List Pair) → e.0 < a → insert_edge e rest ≡ e ∷ rest → insert_edge e (edges_at a row ++ rest) ≡ e ∷ (edges_at a row ++ rest)
insert_edge_first_at e a [] rest h first = first
insert_edge_first_at e a (c ∷ cs) rest h first = grind (arith, nat_tests, insert_edge_first_at e a cs rest h first)

insert_edge_first : (e : Pair) (a : ℕ) (rows : List (List ℕ)) → e.0 < a → insert_edge e (edges_of a rows) ≡ e ∷ edges_of a rows
insert_edge_first e a [] h = refl
insert_edge_first e a (row ∷ rows) h =
    insert_edge_first_at e a row (edges_of (suc a) rows) h (insert_edge_first e (suc a) rows (omega arith))

insert_edge_in_row : (a b : ℕ) (row : List ℕ) (rest : List Pair) → insert_edge (a, b) rest ≡ (a, b) ∷ rest → insert_edge (a, b) (edges_at a row ++ rest) ≡ insert_edge (a, b) (edges_at a row) ++ rest
insert_edge_in_row a b [] rest first = first
insert_edge_in_row a b (c ∷ cs) rest first = grind (arith, nat_tests, insert_edge_in_row a b cs rest first)

-- the row k, of vertex a, gains a number b above a
pub edges_of_put_above : (from k a b : ℕ) (rows : List (List ℕ)) → a ≡ from + k → k < length rows → a < b → edges_of from (set rows k (put b (get_or rows k []))) ≡ insert_edge (a, b) (edges_of from rows)
edges_of_put_above from k a b [] e h above = absurd (omega arith)
edges_of_put_above from zero a b (row ∷ rows) e h above = grind (arith, nat_tests, edges_at_put, insert_edge_in_row, insert_edge_first)
edges_of_put_above from (suc k) a b (row ∷ rows) e h above = grind (arith, nat_tests, edges_of_put_above (suc from) k a b rows (omega arith) (omega arith) above, insert_edge_past)

-- the row k gains a number that is not above its vertex
pub edges_of_put_below : (from k a : ℕ) (rows : List (List ℕ)) → k < length rows → a ≤ from + k → edges_of from (set rows k (put a (get_or rows k []))) ≡ edges_of from rows
edges_of_put_below from k a [] h below = absurd (omega arith)
edges_of_put_below from zero a (row ∷ rows) h below = ap (λ z. z ++ edges_of (suc from) rows) (edges_at_put_below from a row (omega arith))
edges_of_put_below from (suc k) a (row ∷ rows) h below = ap (λ z. edges_at from row ++ z) (edges_of_put_below (suc from) k a rows (omega arith) (omega arith))

-- a row that loses a number above its vertex, and one that loses a number not above it
edges_at_without : (a b : ℕ) (row : List ℕ) → edges_at a (without b row) ≡ remove_edge (a, b) (edges_at a row)
edges_at_without a b [] = refl
edges_at_without a b (c ∷ cs) = grind (arith, nat_tests, edges_at_without a b cs)

edges_at_without_below : (a b : ℕ) (row : List ℕ) → b ≤ a → edges_at a (without b row) ≡ edges_at a row
edges_at_without_below a b [] h = refl
edges_at_without_below a b (c ∷ cs) h = grind (arith, nat_tests, edges_at_without_below a b cs h)

-- other rows have no edge from e's lesser vertex
remove_edge_other_row : (e : Pair) (a : ℕ) (row : List ℕ) → e.0 ≢ a → remove_edge e (edges_at a row) ≡ edges_at a row
remove_edge_other_row e a [] other = refl
remove_edge_other_row e a (c ∷ cs) other = grind (arith, nat_tests, remove_edge_other_row e a cs other)

remove_edge_later_rows : (e : Pair) (a : ℕ) (rows : List (List ℕ)) → e.0 < a → remove_edge e (edges_of a rows) ≡ edges_of a rows
remove_edge_later_rows e a [] h = refl
remove_edge_later_rows e a (row ∷ rows) h = grind (arith, nat_tests, remove_edge_later_rows e (suc a) rows (omega arith), filter-append, remove_edge_other_row)

-- the row k, of vertex a, loses the number b
pub edges_of_without_above : (from k a b : ℕ) (rows : List (List ℕ)) → a ≡ from + k → k < length rows → edges_of from (set rows k (without b (get_or rows k []))) ≡ remove_edge (a, b) (edges_of from rows)
edges_of_without_above from k a b [] e h = absurd (omega arith)
edges_of_without_above from zero a b (row ∷ rows) e h = grind (arith, nat_tests, edges_at_without, remove_edge_later_rows, filter-append)
edges_of_without_above from (suc k) a b (row ∷ rows) e h = grind (arith, nat_tests, edges_of_without_above (suc from) k a b rows (omega arith) (omega arith), remove_edge_other_row, filter-append)

-- the row k loses a number that is not above its vertex
pub edges_of_without_below : (from k a : ℕ) (rows : List (List ℕ)) → k < length rows → a ≤ from + k → edges_of from (set rows k (without a (get_or rows k []))) ≡ edges_of from rows
edges_of_without_below from k a [] h below = absurd (omega arith)
edges_of_without_below from zero a (row ∷ rows) h below = ap (λ z. z ++ edges_of (suc from) rows) (edges_at_without_below from a row (omega arith))
edges_of_without_below from (suc k) a (row ∷ rows) h below = ap (λ z. edges_at from row ++ z) (edges_of_without_below (suc from) k a rows (omega arith) (omega arith))
