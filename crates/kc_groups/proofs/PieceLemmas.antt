-- The rows of some places, and those of all places piece by piece.
use Rattle.std.proofs.Common.{ℕ, ◌+◌, ◌-◌, ◌*◌, ◌/◌, ◌%◌, min, ◌≤◌, ◌<◌, ◌≡◌, inl, inr, Bool, true, false, ◌&&◌, ◌||◌, leb, ltb, List, length, get_or, ap, ◌∙◌, arith}
use Rattle.std.proofs.lemmas.Bool.{cases_lt}
use Rattle.std.proofs.lemmas.Bool.Decides.{nat_tests}
use Rattle.std.proofs.lemmas.Grind.{common_steps}
use Rattle.kc_graph.specs.Shape.{GraphShape, neighbours_of}
use Rattle.kc_groups.specs.private.Forest.{AreGathered}
use Rattle.kc_groups.specs.private.Gathering.{is_near, in_rows, in_row, in_piece}
use Rattle.kc_groups.proofs.ForestLemmas.{gathered_same}

-- whether the mover at place j is before the one at place i, and is its neighbour
abbrev near : GraphShape → List ℕ → ℕ → ℕ → Bool
near g vs i j = is_near vs (neighbours_of (get_or vs i 0) g.edges) i j

module _ (m : ℕ) (g : GraphShape) (vs : List ℕ) where
  -- one place more
  grown : (from k i j : ℕ) → from ≤ k → in_rows g vs from (k + 1) i j ≡ (in_rows g vs from k i j || in_row g vs k i j)
  grown from k i j le = grind (arith, nat_tests, common_steps)

  -- no place
  none : (from k i j : ℕ) → k ≤ from → in_rows g vs from k i j ≡ false
  none from k i j le = grind (arith, nat_tests, common_steps)

  -- some places, cut in two
  cut : (from k next i j : ℕ) → from ≤ k → k ≤ next → in_rows g vs from next i j ≡ (in_rows g vs from k i j || in_rows g vs k next i j)
  cut from k next i j low le = at i (near g vs i j)
    where
      at : (i : ℕ) (b : Bool) → (leb from i && (ltb i next && b)) ≡ ((leb from i && (ltb i k && b)) || (leb k i && (ltb i next && b)))
      at i false = grind (arith, nat_tests)
      at i true = elim (cases_lt i k) [
        | inl lt ↦ let early : i < next = omega (arith, lt, le) in grind (arith, nat_tests, lt, early)
        | inr ge ↦ let late : from ≤ i = omega (arith, ge, low) in grind (arith, nat_tests, ge, late)
      ]

  -- the places to the middle, and as many at the other end
  whole : (half i j : ℕ) → m ≤ half + half → length vs ≡ m → i < m → in_rows g vs 0 m i j ≡ in_piece g vs 0 half i j
  whole half i j le long h = at (near g vs i j)
    where
      last : i < length vs - 0
      last = omega (arith, long, h)

      at : (b : Bool) → (leb 0 i && (ltb i m && b)) ≡ ((leb 0 i && (ltb i half && b)) || (leb (length vs - half) i && (ltb i (length vs - 0) && b)))
      at false = grind (arith, nat_tests)
      at true = elim (cases_lt i half) [
        | inl lt ↦ grind (arith, nat_tests, lt, h)
        | inr ge ↦ let late : length vs - half ≤ i = omega (arith, ge, long, le) in grind (arith, nat_tests, late, last, h)
      ]

  module _ (parents : List ℕ) where
    -- no place is there yet
    pub rows_none : (before : ℕ → ℕ → Bool) (from : ℕ) → AreGathered m before parents → AreGathered m (λ i j. before i j || in_rows g vs from from i j) parents
    rows_none before from a = gathered_same m before (λ i j. before i j || in_rows g vs from from i j) parents a (λ i j hi hj. ap (λ b. before i j || b) (none from from i j (omega arith)) ∙ grind (arith, nat_tests))

    pub pieces_none : (k : ℕ) → k ≡ 0 → AreGathered m (λ i j. false) parents → AreGathered m (in_piece g vs 0 k) parents
    pieces_none k e a = gathered_same m (λ i j. false) (in_piece g vs 0 k) parents a (λ i j hi hj. ap (λ b. b || in_rows g vs (length vs - k) (length vs - 0) i j) (none 0 k i j (omega (arith, e))) ∙ none (length vs - k) (length vs - 0) i j (omega (arith, e)))

    -- one place more
    pub rows_more : (before : ℕ → ℕ → Bool) (from k : ℕ) → from ≤ k → AreGathered m (λ i j. (before i j || in_rows g vs from k i j) || in_row g vs k i j) parents → AreGathered m (λ i j. before i j || in_rows g vs from (k + 1) i j) parents
    rows_more before from k le a = gathered_same m (λ i j. (before i j || in_rows g vs from k i j) || in_row g vs k i j) (λ i j. before i j || in_rows g vs from (k + 1) i j) parents a (λ i j hi hj. ap (λ b. before i j || b) (grown from k i j le) ∙ spread (before i j) (in_rows g vs from k i j) (in_row g vs k i j))
      where
        spread : (a b c : Bool) → (a || (b || c)) ≡ ((a || b) || c)
        spread a b c = grind (arith, nat_tests)

    -- the two parts of a piece
    pub piece_is : (from k : ℕ) → length vs ≡ m → AreGathered m (λ i j. in_rows g vs from k i j || in_rows g vs (m - k) (m - from) i j) parents → AreGathered m (in_piece g vs from k) parents
    piece_is from k long a = gathered_same m (λ i j. in_rows g vs from k i j || in_rows g vs (m - k) (m - from) i j) (in_piece g vs from k) parents a (λ i j hi hj. ap (λ l. in_rows g vs from k i j || in_rows g vs (l - k) (l - from) i j) long)

    -- one piece more
    pub pieces_joined : (k next : ℕ) → k ≤ next → AreGathered m (λ i j. in_piece g vs 0 k i j || in_piece g vs k next i j) parents → AreGathered m (in_piece g vs 0 next) parents
    pieces_joined k next le a = gathered_same m (λ i j. in_piece g vs 0 k i j || in_piece g vs k next i j) (in_piece g vs 0 next) parents a (λ i j hi hj.
        ap (λ b. b || in_rows g vs (length vs - next) (length vs - 0) i j) (cut 0 k next i j (omega arith) le)
        ∙ ap (λ b. (in_rows g vs 0 k i j || in_rows g vs k next i j) || b) (cut (length vs - next) (length vs - k) (length vs - 0) i j (omega (arith, le)) (omega arith))
        ∙ turned (in_rows g vs 0 k i j) (in_rows g vs k next i j) (in_rows g vs (length vs - next) (length vs - k) i j) (in_rows g vs (length vs - k) (length vs - 0) i j))
      where
        turned : (a b c d : Bool) → ((a || b) || (c || d)) ≡ ((a || d) || (b || c))
        turned a b c d = grind (arith, nat_tests)

    -- the pieces to the middle are all rows
    pub pieces_whole : (half : ℕ) → m ≤ half + half → length vs ≡ m → AreGathered m (in_piece g vs 0 half) parents → AreGathered m (in_rows g vs 0 m) parents
    pieces_whole half le long a = gathered_same m (in_piece g vs 0 half) (in_rows g vs 0 m) parents a (λ i j hi hj. whole half i j le long hi)

-- where a piece ends, at which the next one starts
pub piece_ends : (m size i len : ℕ) → len ≡ min size (m - i * size) → i * size + len ≤ m → (min (i * size) m ≡ i * size) × (i * size + len ≡ min ((i + 1) * size) m)
piece_ends m size i len is inside = grind (arith, nat_tests, common_steps)

-- the last piece ends with the last place
pub last_ends : (m size count : ℕ) → 0 < size → count ≡ m / size + min 1 (m % size) → min (count * size) m ≡ m
last_ends m size count some is = grind (arith, nat_tests, common_steps)
