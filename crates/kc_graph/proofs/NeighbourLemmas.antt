-- Lemmas on the neighbours of a vertex.
use Rattle.std.proofs.Common.{ℕ, suc, ◌+◌, ◌≤◌, ◌<◌, ◌≡◌, ◌≢◌, Bool, true, false, ◌&&◌, List, [], ◌∷◌, length, refl, ap, sym, ◌∙◌, arith}
use Rattle.std.proofs.lemmas.Bool.Decides.{nat_tests}
use Rattle.std.specs.Prelude.{max, count_by}
use Rattle.kc_graph.specs.Numbers.{RisesFrom, AllBelow, has_number, count_below}
use Rattle.kc_graph.specs.private.Numbers.{put, without}
use Rattle.kc_graph.specs.Shape.{Pair, EdgesFrom, neighbours_of, joined, insert_edge, remove_edge}
use Rattle.kc_graph.proofs.NumberLemmas.{rises_from_put, below_from_put, length-put, length-rising}
use Rattle.kc_graph.proofs.CountLemmas.{count_below_agree, count_by-rising}
use Rattle.kc_graph.proofs.EdgeLemmas.{edges_from_weaker, joined_comm, joined_itself, joined_inside}

-- w is a neighbour of v where the two share an edge
pub has_number-neighbours_of : (v w : ℕ) (es : List Pair) → has_number w (neighbours_of v es) ≡ joined v w es
has_number-neighbours_of v w [] = refl
has_number-neighbours_of v w (f ∷ fs) = grind (arith, nat_tests, has_number-neighbours_of v w fs)

pub neighbours_both : (v w : ℕ) (es : List Pair) → has_number w (neighbours_of v es) ≡ has_number v (neighbours_of w es)
neighbours_both v w es = has_number-neighbours_of v w es ∙ joined_comm v w es ∙ sym (has_number-neighbours_of w v es)

pub no_own_neighbour : (n c d v : ℕ) (es : List Pair) → EdgesFrom n c d es → has_number v (neighbours_of v es) ≡ false
no_own_neighbour n c d v es up = has_number-neighbours_of v v es ∙ joined_itself n c d v es up

-- a neighbour is a vertex
pub neighbour_below : (n v w : ℕ) (es : List Pair) → EdgesFrom n 0 0 es → has_number w (neighbours_of v es) ≡ true → w < n
neighbour_below n v w es up there = (joined_inside n 0 0 v w es up (sym (has_number-neighbours_of v w es) ∙ there)).1

pub neighbours_below : (n c d v : ℕ) (es : List Pair) → EdgesFrom n c d es → AllBelow n (neighbours_of v es)
neighbours_below n c d v [] up = tt
neighbours_below n c d v (f ∷ fs) up =
    let later : AllBelow n (neighbours_of v fs) = neighbours_below n f.0 (suc f.1) v fs up.3 in
    grind (arith, nat_tests, up.1, up.2)

-- the neighbours of v ascend from `low`, which is at most what the next can be
rise_from : (n a b low v : ℕ) (es : List Pair) → EdgesFrom n a b es → (a < v → b ≤ v → low ≤ a) → (a < v → v < b → low ≤ a + 1) → (a ≡ v → low ≤ max b (v + 1)) → RisesFrom low (neighbours_of v es)
rise_from n a b low v [] up p q r = tt
rise_from n a b low v (f ∷ fs) up p q r =
    grind (arith, nat_tests, up.0, up.1, rise_from n f.0 (suc f.1) low v fs up.3, rise_from n f.0 (suc f.1) (suc f.0) v fs up.3, rise_from n f.0 (suc f.1) (suc f.1) v fs up.3)

pub neighbours_rise : (n v : ℕ) (es : List Pair) → EdgesFrom n 0 0 es → RisesFrom 0 (neighbours_of v es)
neighbours_rise n v es up = rise_from n 0 0 0 v es up (λ p q. omega arith) (λ p q. omega arith) (λ p. omega arith)

-- a vertex has fewer neighbours than there are vertices
pub fewer_neighbours : (n v : ℕ) (es : List Pair) → EdgesFrom n 0 0 es → v < n → length (neighbours_of v es) < n
fewer_neighbours n v es up h =
    let rise : RisesFrom 0 (neighbours_of v es) = neighbours_rise n v es up in
    let more : RisesFrom 0 (put v (neighbours_of v es)) = rises_from_put 0 v (neighbours_of v es) rise (omega arith) in
    let low : AllBelow n (put v (neighbours_of v es)) = below_from_put n v (neighbours_of v es) (neighbours_below n 0 0 v es up) h in
    let longer = length-put v (neighbours_of v es) (no_own_neighbour n 0 0 v es up) in
    omega (arith, length-rising n 0 (put v (neighbours_of v es)) more low (omega arith), longer)

-- counting over the neighbours of v is counting over all vertices that share an edge with v
pub count_by-neighbours_of : (n v : ℕ) (p : ℕ → Bool) (es : List Pair) → EdgesFrom n 0 0 es → count_by p (neighbours_of v es) ≡ count_below n (λ w. joined v w es && p w)
count_by-neighbours_of n v p es up =
    count_by-rising n 0 p (neighbours_of v es) (neighbours_rise n v es up) (neighbours_below n 0 0 v es up)
    ∙ count_below_agree n (λ w. has_number w (neighbours_of v es) && p w) (λ w. joined v w es && p w) (λ w h. ap (λ b. b && p w) (has_number-neighbours_of v w es))

-- where each edge is after (a, b), each neighbour of a is above b, and each neighbour of b above a
put_neighbour_above : (n a b : ℕ) (es : List Pair) → a < b → EdgesFrom n a (suc b) es → put b (neighbours_of a es) ≡ b ∷ neighbours_of a es
put_neighbour_above n a b [] h up = refl
put_neighbour_above n a b (f ∷ fs) h up =
    let later : put b (neighbours_of a fs) ≡ b ∷ neighbours_of a fs = put_neighbour_above n a b fs h (edges_from_weaker n a (suc b) f.0 (suc f.1) fs (grind (arith, up.0)) up.3) in
    grind (arith, nat_tests, later, up.0, up.1)

put_neighbour_below : (n a b : ℕ) (es : List Pair) → a < b → EdgesFrom n a (suc b) es → put a (neighbours_of b es) ≡ a ∷ neighbours_of b es
put_neighbour_below n a b [] h up = refl
put_neighbour_below n a b (f ∷ fs) h up =
    let later : put a (neighbours_of b fs) ≡ a ∷ neighbours_of b fs = put_neighbour_below n a b fs h (edges_from_weaker n a (suc b) f.0 (suc f.1) fs (grind (arith, up.0)) up.3) in
    grind (arith, nat_tests, later, up.0, up.1)

-- the neighbours after an edge (a, b) came in: at a, at b, and at any other vertex
pub neighbours_of_insert_low : (n c d a b : ℕ) (es : List Pair) → a < b → EdgesFrom n c d es → neighbours_of a (insert_edge (a, b) es) ≡ put b (neighbours_of a es)
neighbours_of_insert_low n c d a b [] h up = grind (arith, nat_tests)
neighbours_of_insert_low n c d a b (f ∷ fs) h up =
    grind (arith, nat_tests, up.0, up.1, neighbours_of_insert_low n f.0 (suc f.1) a b fs h up.3, put_neighbour_above n a b (f ∷ fs) h)

pub neighbours_of_insert_high : (n c d a b : ℕ) (es : List Pair) → a < b → EdgesFrom n c d es → neighbours_of b (insert_edge (a, b) es) ≡ put a (neighbours_of b es)
neighbours_of_insert_high n c d a b [] h up = grind (arith, nat_tests)
neighbours_of_insert_high n c d a b (f ∷ fs) h up =
    grind (arith, nat_tests, up.0, up.1, neighbours_of_insert_high n f.0 (suc f.1) a b fs h up.3, put_neighbour_below n a b (f ∷ fs) h)

pub neighbours_of_insert_other : (v a b : ℕ) (es : List Pair) → v ≢ a → v ≢ b → neighbours_of v (insert_edge (a, b) es) ≡ neighbours_of v es
neighbours_of_insert_other v a b [] ne nf = grind (arith, nat_tests)
neighbours_of_insert_other v a b (f ∷ fs) ne nf = grind (arith, nat_tests, neighbours_of_insert_other v a b fs ne nf)

-- the neighbours after an edge (a, b) was taken out: at a, at b, and at any other vertex
pub neighbours_of_remove_low : (n c d a b : ℕ) (es : List Pair) → a < b → EdgesFrom n c d es → neighbours_of a (remove_edge (a, b) es) ≡ without b (neighbours_of a es)
neighbours_of_remove_low n c d a b [] h up = refl
neighbours_of_remove_low n c d a b (f ∷ fs) h up = grind (arith, nat_tests, up.1, neighbours_of_remove_low n f.0 (suc f.1) a b fs h up.3)

pub neighbours_of_remove_high : (n c d a b : ℕ) (es : List Pair) → a < b → EdgesFrom n c d es → neighbours_of b (remove_edge (a, b) es) ≡ without a (neighbours_of b es)
neighbours_of_remove_high n c d a b [] h up = refl
neighbours_of_remove_high n c d a b (f ∷ fs) h up = grind (arith, nat_tests, up.1, neighbours_of_remove_high n f.0 (suc f.1) a b fs h up.3)

pub neighbours_of_remove_other : (v a b : ℕ) (es : List Pair) → v ≢ a → v ≢ b → neighbours_of v (remove_edge (a, b) es) ≡ neighbours_of v es
neighbours_of_remove_other v a b [] ne nf = refl
neighbours_of_remove_other v a b (f ∷ fs) ne nf = grind (arith, nat_tests, neighbours_of_remove_other v a b fs ne nf)
