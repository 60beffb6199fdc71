-- The rows of a graph after both halves of some edges came in, or left.
use Rattle.std.proofs.Common.{ℕ, suc, ◌+◌, ◌-◌, ◌≤◌, ◌<◌, ◌≡◌, Bool, true, false, ◌||◌, ◌&&◌, List, [], ◌∷◌, length, get_or, refl, ap, sym, ◌∙◌, arith, subst, true≢false}
use Rattle.std.proofs.lemmas.List.{ext_get_or}
use Rattle.std.specs.Prelude.{not}
use Rattle.std.proofs.lemmas.Bool.Decides.{nat_tests}
use Rattle.kc_graph.specs.Numbers.{RisesFrom, has_number}
use Rattle.kc_graph.specs.Shape.{GraphShape, Pair, EdgesFrom, has_edge, joined, insert_edge, remove_edge, with_edges, without_edges}
use Rattle.kc_graph.specs.Changes.{CanAdd, CanRemove, AllAbsent}
use Rattle.kc_graph.specs.KeptRows.{edges_of, IsKept}
use Rattle.kc_graph.specs.private.KeptRows.{rows_joined, rows_parted}
use Rattle.kc_graph.specs.private.Halves.{AreGiven, AreGivenSome, AreTaken}
use Rattle.kc_graph.proofs.NumberLemmas.{same_rising}
use Rattle.kc_graph.proofs.EdgeLemmas.{has_edge_turned, joined_inside}
use Rattle.kc_graph.proofs.EdgeListLemmas.{all_at}
use Rattle.kc_graph.proofs.NeighbourLemmas.{has_number-neighbours_of, neighbours_rise}
use Rattle.kc_graph.proofs.ChangeLemmas.{has_edge-with_edges, has_edge-without_edges, vertices-with_edges, vertices-without_edges}
use Rattle.kc_graph.proofs.KeptLemmas.{edges_of-joined, kept_joined, edges_of-parted, kept_parted, some_edge}

-- the graph that rows stand for
abbrev pub graph_of : ℕ → List (List ℕ) → GraphShape
graph_of n rows = record { vertices = n; edges = edges_of 0 rows }

-- the edges come in, or leave, one after another
abbrev joins : List (List ℕ) → List Pair → List (List ℕ)
joins rows [] = rows
joins rows (e ∷ es) = joins (rows_joined rows e.0 e.1) es

abbrev parts : List (List ℕ) → List Pair → List (List ℕ)
parts rows [] = rows
parts rows (e ∷ es) = parts (rows_parted rows e.0 e.1) es

joins_kept : (n count a b : ℕ) (rows : List (List ℕ)) (es : List Pair) → IsKept n rows count → EdgesFrom n a b es → CanAdd (graph_of n rows) es → IsKept n (joins rows es) (count + length es) × (edges_of 0 (joins rows es) ≡ (with_edges (graph_of n rows) es).edges)
joins_kept n count a b rows [] kept up can = (subst (λ m. IsKept n rows m) (omega arith) kept, refl)
joins_kept n count a b rows (e ∷ es) kept up can =
    let is : edges_of 0 (rows_joined rows e.0 e.1) ≡ insert_edge e (edges_of 0 rows) = edges_of-joined n count e rows kept up.1 up.2 in
    let next : IsKept n (rows_joined rows e.0 e.1) (count + 1) = kept_joined n count e rows kept up.1 up.2 can.1 (omega (arith, can.2, kept.counted)) in
    let rest = joins_kept n (count + 1) e.0 (suc e.1) (rows_joined rows e.0 e.1) es next up.3 (subst (λ (fs : List Pair). CanAdd (record { vertices = n; edges = fs }) es) (sym is) can.3) in
    (subst (λ m. IsKept n (joins (rows_joined rows e.0 e.1) es) m) (omega arith) rest.0, rest.1 ∙ ap (λ (fs : List Pair). (with_edges (record { vertices = n; edges = fs }) es).edges) is)

parts_kept : (n count a b : ℕ) (rows : List (List ℕ)) (es : List Pair) → IsKept n rows count → EdgesFrom n a b es → CanRemove (graph_of n rows) es → IsKept n (parts rows es) (count - length es) × (edges_of 0 (parts rows es) ≡ (without_edges (graph_of n rows) es).edges) × (length es ≤ count)
parts_kept n count a b rows [] kept up can = (subst (λ m. IsKept n rows m) (omega arith) kept, refl, omega arith)
parts_kept n count a b rows (e ∷ es) kept up can =
    let is : edges_of 0 (rows_parted rows e.0 e.1) ≡ remove_edge e (edges_of 0 rows) = edges_of-parted n count e rows kept up.1 up.2 in
    let next : IsKept n (rows_parted rows e.0 e.1) (count - 1) = kept_parted n count e rows kept up.1 up.2 can.1 in
    let rest = parts_kept n (count - 1) e.0 (suc e.1) (rows_parted rows e.0 e.1) es next up.3 (subst (λ (fs : List Pair). CanRemove (record { vertices = n; edges = fs }) es) (sym is) can.2) in
    let some : 1 ≤ count = some_edge n count e rows kept up.1 up.2 can.1 in
    (subst (λ m. IsKept n (parts (rows_parted rows e.0 e.1) es) m) (omega arith) rest.0, rest.1 ∙ ap (λ (fs : List Pair). (without_edges (record { vertices = n; edges = fs }) es).edges) is, omega (arith, rest.2))

pub rows_rise : (n count : ℕ) (rows : List (List ℕ)) → IsKept n rows count → (v : ℕ) → v < n → RisesFrom 0 (get_or rows v [])
rows_rise n count rows kept v lt = rw (kept.rows_are v lt) (neighbours_rise n v (edges_of 0 rows) kept.rising)

row_has : (n count : ℕ) (rows : List (List ℕ)) → IsKept n rows count → (v x : ℕ) → v < n → has_number x (get_or rows v []) ≡ joined v x (edges_of 0 rows)
row_has n count rows kept v x h = ap (has_number x) (kept.rows_are v h) ∙ has_number-neighbours_of v x (edges_of 0 rows)

-- rows that ascend and have the same numbers are the same
same_rows : (n : ℕ) (rows others : List (List ℕ)) → length rows ≡ n → length others ≡ n → ((v : ℕ) → v < n → RisesFrom 0 (get_or rows v [])) → ((v : ℕ) → v < n → RisesFrom 0 (get_or others v [])) → ((v x : ℕ) → v < n → has_number x (get_or rows v []) ≡ has_number x (get_or others v [])) → rows ≡ others
same_rows n rows others is1 is2 up vp same = ext_get_or [] rows others (is1 ∙ sym is2) (λ v h. same_rising 0 (get_or rows v []) (get_or others v []) (up v (omega (arith, is1, h))) (vp v (omega (arith, is1, h))) (λ x. same v x (omega (arith, is1, h))))

pub halves_inside : (n a b : ℕ) (es : List Pair) → EdgesFrom n a b es → (v x : ℕ) → joined v x es ≡ true → v < n
halves_inside n a b es up v x there = (joined_inside n a b v x es up there).0

module _ (n count : ℕ) (rows new : List (List ℕ)) (es halves : List Pair) (kept : IsKept n rows count) (up : EdgesFrom n 0 0 es) (both : (v x : ℕ) → has_edge (v, x) halves ≡ joined v x es) where
  -- where the first row is that of 0
  own_halves : (v x : ℕ) → has_edge (0 + v, x) halves ≡ joined v x es
  own_halves v x =
      let same : 0 + v ≡ v = omega arith in
      rw same (both v x)

  is_given : AreGiven 0 rows new halves → CanAdd (graph_of n rows) es → new ≡ joins rows es
  is_given given can =
      let r = joins_kept n count 0 0 rows es kept up can in
      same_rows n new (joins rows es) (given.sized ∙ kept.sized) r.0.sized (λ v h. given.rise v (omega (arith, kept.sized, h)) (rows_rise n count rows kept v h)) (rows_rise n (count + length es) (joins rows es) r.0) (λ v x h.
      given.has v x (omega (arith, kept.sized))
      ∙ ap (λ b. b || has_edge (0 + v, x) halves) (row_has n count rows kept v x h)
      ∙ ap (λ b. joined v x (edges_of 0 rows) || b) (own_halves v x)
      ∙ regroup (has_edge (v, x) (edges_of 0 rows)) (has_edge (x, v) (edges_of 0 rows)) (has_edge (v, x) es) (has_edge (x, v) es)
      ∙ sym (rw (row_has n (count + length es) (joins rows es) r.0 v x h, r.1, has_edge-with_edges (v, x) (graph_of n rows) es, has_edge-with_edges (x, v) (graph_of n rows) es) refl))
    where
      regroup : (a b c d : Bool) → ((a || b) || (c || d)) ≡ ((c || a) || (d || b))
      regroup true b true d = refl
      regroup true b false d = refl
      regroup false true true d = refl
      regroup false true false true = refl
      regroup false true false false = refl
      regroup false false true d = refl
      regroup false false false true = refl
      regroup false false false false = refl

  pub kept_given : AreGiven 0 rows new halves → CanAdd (graph_of n rows) es → IsKept n new (count + length es)
  kept_given given can = rw (is_given given can) (joins_kept n count 0 0 rows es kept up can).0

  pub edges_given : AreGiven 0 rows new halves → CanAdd (graph_of n rows) es → edges_of 0 new ≡ (with_edges (graph_of n rows) es).edges
  edges_given given can = rw (is_given given can) (joins_kept n count 0 0 rows es kept up can).1

  -- of two vertices the lesser comes first in the edges
  one_way : (v x : ℕ) (fs : List Pair) → EdgesFrom n 0 0 fs → x ≤ v → has_edge (v, x) fs ≡ false
  one_way v x fs vp le = has_edge_turned n 0 0 x v fs vp le

  is_taken : AreTaken 0 rows new halves → CanRemove (graph_of n rows) es → new ≡ parts rows es
  is_taken taken can =
      let r = parts_kept n count 0 0 rows es kept up can in
      same_rows n new (parts rows es) (taken.sized ∙ kept.sized) r.0.sized (λ v h. taken.rise v (omega (arith, kept.sized, h)) (rows_rise n count rows kept v h)) (rows_rise n (count - length es) (parts rows es) r.0) (λ v x h.
      taken.has v x (omega (arith, kept.sized))
      ∙ ap (λ b. not (has_edge (0 + v, x) halves) && b) (row_has n count rows kept v x h)
      ∙ ap (λ b. not b && joined v x (edges_of 0 rows)) (own_halves v x)
      ∙ sides v x
      ∙ sym (rw (row_has n (count - length es) (parts rows es) r.0 v x h, r.1, has_edge-without_edges (v, x) (graph_of n rows) es, has_edge-without_edges (x, v) (graph_of n rows) es) refl))
    where
      low : (a c : Bool) → (not (c || false) && (a || false)) ≡ ((not c && a) || (true && false))
      low true true = refl
      low true false = refl
      low false true = refl
      low false false = refl

      high : (b d : Bool) → (not (false || d) && (false || b)) ≡ ((true && false) || (not d && b))
      high b d = refl

      sides : (v x : ℕ) → (not (joined v x es) && joined v x (edges_of 0 rows)) ≡ ((not (has_edge (v, x) es) && has_edge (v, x) (edges_of 0 rows)) || (not (has_edge (x, v) es) && has_edge (x, v) (edges_of 0 rows)))
      sides v x = grind (arith, nat_tests, one_way, low, high, kept.rising)

  pub kept_taken : AreTaken 0 rows new halves → CanRemove (graph_of n rows) es → IsKept n new (count - length es)
  kept_taken taken can = rw (is_taken taken can) (parts_kept n count 0 0 rows es kept up can).0

  pub edges_taken : AreTaken 0 rows new halves → CanRemove (graph_of n rows) es → edges_of 0 new ≡ (without_edges (graph_of n rows) es).edges
  edges_taken taken can = rw (is_taken taken can) (parts_kept n count 0 0 rows es kept up can).1

  pub no_more_edges : CanRemove (graph_of n rows) es → length es ≤ count
  no_more_edges can = (parts_kept n count 0 0 rows es kept up can).2

  -- what came in of edges that were not there, and left again
  pub undone_all : (some : List (List ℕ)) → AreGivenSome 0 rows some halves → AreTaken 0 some new halves → AllAbsent (graph_of n rows) es → new ≡ rows
  undone_all some given taken absent = same_rows n new rows (taken.sized ∙ given.sized ∙ kept.sized) kept.sized (λ v h. taken.rise v (omega (arith, kept.sized, given.sized, h)) (given.rise v (omega (arith, kept.sized, h)) (rows_rise n count rows kept v h))) (rows_rise n count rows kept) (λ v x h.
      taken.has v x (omega (arith, kept.sized, given.sized))
      ∙ ap (λ b. not b && has_number x (get_or some v [])) (own_halves v x)
      ∙ back (has_number x (get_or rows v [])) (has_number x (get_or some v [])) (joined v x es)
      (given.kept v x (omega (arith, kept.sized, h)))
      (λ there. ap (λ b. has_number x (get_or rows v []) || b) (sym (own_halves v x)) ∙ given.only v x (omega (arith, kept.sized)) there)
      (λ there. apart v x (sym (row_has n count rows kept v x h) ∙ there)))
    where
      back : (a b j : Bool) → (a ≡ true → b ≡ true) → (b ≡ true → (a || j) ≡ true) → (a ≡ true → j ≡ false) → (not j && b) ≡ a
      back true b j kept only apart = rw (apart refl, kept refl) refl
      back false true true kept only apart = refl
      back false true false kept only apart = absurd (true≢false (sym (only refl)))
      back false false true kept only apart = refl
      back false false false kept only apart = refl

      lone : (e : Pair) → has_edge e (edges_of 0 rows) ≡ true → (b : Bool) → has_edge e es ≡ b → has_edge e es ≡ false
      lone e there true is = absurd (true≢false (sym there ∙ all_at es (λ f. has_edge f (edges_of 0 rows) ≡ false) absent e is))
      lone e there false is = is

      apart : (v x : ℕ) → joined v x (edges_of 0 rows) ≡ true → joined v x es ≡ false
      apart v x there = grind (arith, nat_tests, one_way, lone, true≢false, kept.rising)

module _ (n count : ℕ) (rows new : List (List ℕ)) (es halves : List Pair) (kept : IsKept n rows count) (up : EdgesFrom n 0 0 es) (both : (v x : ℕ) → has_edge (v, x) halves ≡ joined v x es) where
  pub graph_given : AreGiven 0 rows new halves → CanAdd (graph_of n rows) es → graph_of n new ≡ with_edges (graph_of n rows) es
  graph_given given can =
      ap (λ (fs : List Pair). record { vertices = n; edges = fs }) (edges_given n count rows new es halves kept up both given can)
      ∙ ap (λ m. record { vertices = m; edges = (with_edges (graph_of n rows) es).edges }) (sym (vertices-with_edges (graph_of n rows) es))

  pub graph_taken : AreTaken 0 rows new halves → CanRemove (graph_of n rows) es → graph_of n new ≡ without_edges (graph_of n rows) es
  graph_taken taken can =
      ap (λ (fs : List Pair). record { vertices = n; edges = fs }) (edges_taken n count rows new es halves kept up both taken can)
      ∙ ap (λ m. record { vertices = m; edges = (without_edges (graph_of n rows) es).edges }) (sym (vertices-without_edges (graph_of n rows) es))
