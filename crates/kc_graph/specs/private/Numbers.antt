-- Numbers that come into an ascending list, or leave it.
use Rattle.std.specs.Prelude.{ℕ, ◌≤◌, ◌<◌, ◌≡◌, ◌==◌, nat_lt, not, cond, List, [], ◌∷◌, length, filter, get_or, Result}
use Rattle.std.specs.Result.{MatchResult}

-- a rising list with x at its place; a number that is there stays there once
abbrev pub put : ℕ → List ℕ → List ℕ
put x [] = x ∷ []
put x (y ∷ ys) = cond (nat_lt x y) (x ∷ y ∷ ys) (cond (x == y) (y ∷ ys) (y ∷ put x ys))

-- the list without x
abbrev pub without : ℕ → List ℕ → List ℕ
without x xs = filter (λ y. not (y == x)) xs

-- the place of x in a rising list, or where it belongs
abbrev pub Found : List ℕ → ℕ → Result ℕ ℕ → Type 0
Found xs x r =
    MatchResult r (λ i. (i < length xs) × (get_or xs i 0 ≡ x))
    (λ i. (i ≤ length xs) × ((k : ℕ) → k < i → get_or xs k 0 < x) × ((k : ℕ) → i ≤ k → k < length xs → x < get_or xs k 0))
