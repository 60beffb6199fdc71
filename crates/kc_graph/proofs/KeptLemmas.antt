-- What the rows of a graph keep, over plain lists.
use Rattle.std.proofs.Common.{ℕ, ◌+◌, ◌-◌, ◌≤◌, ◌<◌, ◌≡◌, ◌≢◌, true, false, List, [], length, get_or, set, replicate, ap, sym, ◌∙◌, arith}
use Rattle.std.proofs.lemmas.List.{length-set, length-replicate, get_or-set_same, get_or-set_other, get_or-replicate, set-set, set-get_or}
use Rattle.std.proofs.lemmas.Bool.Decides.{nat_tests}
use Rattle.kc_graph.specs.declared.limits.TheConstants.{MAX_VERTICES, MAX_EDGES}
use Rattle.kc_graph.specs.Numbers.{has_number}
use Rattle.kc_graph.specs.private.Numbers.{put, without}
use Rattle.kc_graph.specs.Shape.{Pair, neighbours_of, has_edge, insert_edge, remove_edge}
use Rattle.kc_graph.specs.KeptRows.{edges_of, IsKept}
use Rattle.kc_graph.specs.private.KeptRows.{rows_joined, rows_parted}
use Rattle.kc_graph.proofs.NumberLemmas.{without-put}
use Rattle.kc_graph.proofs.EdgeLemmas.{not_before_first, edges_from_insert, edges_from_remove, length-insert_edge, length-remove_edge, joined_in_order}
use Rattle.kc_graph.proofs.NeighbourLemmas.{has_number-neighbours_of, neighbours_of_insert_low, neighbours_of_insert_high, neighbours_of_insert_other, neighbours_of_remove_low, neighbours_of_remove_high, neighbours_of_remove_other}
use Rattle.kc_graph.proofs.RowLemmas.{edges_of_empty, edges_of_put_above, edges_of_put_below, edges_of_without_above, edges_of_without_below}

pub kept_empty : (n : ℕ) → 1 ≤ n → n ≤ MAX_VERTICES → IsKept n (replicate n []) 0
kept_empty n positive small = grind (arith, nat_tests, edges_of_empty, length-replicate, get_or-replicate)

-- the greater vertex of an edge is in the row of the lesser one exactly where the edge is there
pub has_number-row : (n count : ℕ) (e : Pair) (rows : List (List ℕ)) → IsKept n rows count → e.0 < e.1 → e.1 < n → has_number e.1 (get_or rows e.0 []) ≡ has_edge e (edges_of 0 rows)
has_number-row n count e rows kept h below =
    rw (kept.rows_are e.0 (omega arith)) (has_number-neighbours_of e.0 e.1 (edges_of 0 rows) ∙ joined_in_order n 0 0 e.0 e.1 (edges_of 0 rows) kept.rising (omega arith))

-- two rows are set, and each row is its vertex's neighbours in other edges
rows_set : (n a b : ℕ) (rows : List (List ℕ)) (low high : List ℕ) (es fs : List Pair) → a ≢ b → a < length rows → b < length rows → ((v : ℕ) → v < n → get_or rows v [] ≡ neighbours_of v es) → low ≡ neighbours_of a fs → high ≡ neighbours_of b fs → ((v : ℕ) → v ≢ a → v ≢ b → neighbours_of v fs ≡ neighbours_of v es) → (v : ℕ) → v < n → get_or (set (set rows a low) b high) v [] ≡ neighbours_of v fs
rows_set n a b rows low high es fs apart in_a in_b are low_is high_is others v at = grind (arith, nat_tests, get_or-set_same, length-set, get_or-set_other)

module _ (n count : ℕ) (e : Pair) (rows : List (List ℕ)) (kept : IsKept n rows count) (order : e.0 < e.1) (below : e.1 < n) where
  -- the row of the greater vertex is not the first that is set
  high_row : (low : List ℕ) → get_or (set rows e.0 low) e.1 [] ≡ get_or rows e.1 []
  high_row low = get_or-set_other rows e.0 e.1 low [] (omega arith)

  pub edges_of-joined : edges_of 0 (rows_joined rows e.0 e.1) ≡ insert_edge e (edges_of 0 rows)
  edges_of-joined =
      let low : List ℕ = put e.1 (get_or rows e.0 []) in
      ap (λ (r : List ℕ). edges_of 0 (set (set rows e.0 low) e.1 (put e.0 r))) (sym (high_row low))
      ∙ edges_of_put_below 0 e.1 e.0 (set rows e.0 low) (rw length-set (omega (arith, kept.sized))) (omega arith)
      ∙ edges_of_put_above 0 e.0 e.0 e.1 rows (omega arith) (omega (arith, kept.sized)) order

  pub kept_joined : has_edge e (edges_of 0 rows) ≡ false → count < MAX_EDGES → IsKept n (rows_joined rows e.0 e.1) (count + 1)
  kept_joined absent room =
      let es : List Pair = edges_of 0 rows in
      let low : List ℕ = put e.1 (get_or rows e.0 []) in
      let high : List ℕ = put e.0 (get_or rows e.1 []) in
      let low_is : low ≡ neighbours_of e.0 (insert_edge e es) = ap (put e.1) (kept.rows_are e.0 (omega arith)) ∙ sym (neighbours_of_insert_low n 0 0 e.0 e.1 es order kept.rising) in
      let high_is : high ≡ neighbours_of e.1 (insert_edge e es) = ap (put e.0) (kept.rows_are e.1 below) ∙ sym (neighbours_of_insert_high n 0 0 e.0 e.1 es order kept.rising) in
      record {
        positive = kept.positive;
        small = kept.small;
        sized = length-set (set rows e.0 low) e.1 high ∙ length-set rows e.0 low ∙ kept.sized;
        rising = rw edges_of-joined (edges_from_insert n 0 0 e es (not_before_first e) order below kept.rising);
        rows_are = λ v at.
            rows_set n e.0 e.1 rows low high es (insert_edge e es) (omega arith) (omega (arith, kept.sized)) (omega (arith, kept.sized)) kept.rows_are low_is high_is (λ w not_a not_b. neighbours_of_insert_other w e.0 e.1 es not_a not_b) v at
            ∙ ap (neighbours_of v) (sym edges_of-joined);
        counted = ap length edges_of-joined ∙ length-insert_edge e es absent ∙ ap (λ m. m + 1) kept.counted;
        few = omega arith;
      }

  pub edges_of-parted : edges_of 0 (rows_parted rows e.0 e.1) ≡ remove_edge e (edges_of 0 rows)
  edges_of-parted =
      let low : List ℕ = without e.1 (get_or rows e.0 []) in
      ap (λ (r : List ℕ). edges_of 0 (set (set rows e.0 low) e.1 (without e.0 r))) (sym (high_row low))
      ∙ edges_of_without_below 0 e.1 e.0 (set rows e.0 low) (rw length-set (omega (arith, kept.sized))) (omega arith)
      ∙ edges_of_without_above 0 e.0 e.0 e.1 rows (omega arith) (omega (arith, kept.sized))

  pub some_edge : has_edge e (edges_of 0 rows) ≡ true → 1 ≤ count
  some_edge present = omega (arith, length-remove_edge n 0 0 e (edges_of 0 rows) kept.rising present, kept.counted)

  pub kept_parted : has_edge e (edges_of 0 rows) ≡ true → IsKept n (rows_parted rows e.0 e.1) (count - 1)
  kept_parted present =
      let es : List Pair = edges_of 0 rows in
      let low : List ℕ = without e.1 (get_or rows e.0 []) in
      let high : List ℕ = without e.0 (get_or rows e.1 []) in
      let low_is : low ≡ neighbours_of e.0 (remove_edge e es) = ap (without e.1) (kept.rows_are e.0 (omega arith)) ∙ sym (neighbours_of_remove_low n 0 0 e.0 e.1 es order kept.rising) in
      let high_is : high ≡ neighbours_of e.1 (remove_edge e es) = ap (without e.0) (kept.rows_are e.1 below) ∙ sym (neighbours_of_remove_high n 0 0 e.0 e.1 es order kept.rising) in
      let fewer = length-remove_edge n 0 0 e es kept.rising present in
      record {
        positive = kept.positive;
        small = kept.small;
        sized = length-set (set rows e.0 low) e.1 high ∙ length-set rows e.0 low ∙ kept.sized;
        rising = rw edges_of-parted (edges_from_remove n 0 0 e es kept.rising);
        rows_are = λ v at.
            rows_set n e.0 e.1 rows low high es (remove_edge e es) (omega arith) (omega (arith, kept.sized)) (omega (arith, kept.sized)) kept.rows_are low_is high_is (λ w not_a not_b. neighbours_of_remove_other w e.0 e.1 es not_a not_b) v at
            ∙ ap (neighbours_of v) (sym edges_of-parted);
        counted = omega (arith, ap length edges_of-parted, fewer, kept.counted);
        few = omega (arith, kept.few);
      }

-- a second row that could not grow: what was put into the first is taken out again
pub undone : (a b : ℕ) (rows : List (List ℕ)) (r1 r2 r3 : List ℕ) → a < b → b < length rows → has_number b (get_or rows a []) ≡ false → r1 ≡ put b (get_or rows a []) → r2 ≡ get_or (set rows a r1) b [] → r3 ≡ without b (get_or (set (set rows a r1) b r2) a []) → set (set (set rows a r1) b r2) a r3 ≡ rows
undone a b rows r1 r2 r3 h below absent is1 is2 is3 = grind (arith, nat_tests, set-get_or, get_or-set_same, without-put, set-set)
