-- A forest over the places of a list.
use Rattle.std.specs.Prelude.{ℕ, ◌≤◌, ◌<◌, ◌≡◌, ◌==◌, ◌||◌, Bool, true, cond, List, length, get_or, map, max, min}

-- each place points to one that is no greater, and the way up from it ends at its root in `roots`
pub record IsForest (parents roots : List ℕ) : Type 0 where
  pub sized : length roots ≡ length parents
  pub up : (i : ℕ) → i < length parents → get_or parents i 0 ≤ i
  pub same : (i : ℕ) → i < length parents → get_or roots (get_or parents i 0) 0 ≡ get_or roots i 0
  pub own : (i : ℕ) → i < length parents → get_or parents i 0 ≡ i → get_or roots i 0 ≡ i
  pub low : (i : ℕ) → i < length parents → get_or roots i 0 ≤ i
  pub root : (i : ℕ) → i < length parents → get_or parents (get_or roots i 0) 0 ≡ get_or roots i 0

-- the roots after the trees of i and j became one tree, under the lesser of their roots
abbrev pub merged : ℕ → ℕ → List ℕ → List ℕ
merged i j roots = map (λ r. cond (r == max (get_or roots i 0) (get_or roots j 0)) (min (get_or roots i 0) (get_or roots j 0)) r) roots

-- the forest has a tree for each class of m places that links connect
--
-- Linked places have one root. What is the same at linked places is the same at a place and its root.
pub record AreGathered (m : ℕ) (linked : ℕ → ℕ → Bool) (parents : List ℕ) : Type 0 where
  pub roots : List ℕ
  pub forest : IsForest parents roots
  pub sized : length parents ≡ m
  pub joined : (i j : ℕ) → i < m → j < m → linked i j ≡ true → get_or roots i 0 ≡ get_or roots j 0
  pub sound : (label : ℕ → ℕ) → ((i j : ℕ) → i < m → j < m → linked i j ≡ true → label i ≡ label j) → (i : ℕ) → i < m → label (get_or roots i 0) ≡ label i

-- the forest `old` became `new` by links: if it had the trees of some links before, it has those of them and of these
abbrev pub Joins : ℕ → (ℕ → ℕ → Bool) → List ℕ → List ℕ → Type 0
Joins m linked old new = (before : ℕ → ℕ → Bool) → AreGathered m before old → AreGathered m (λ i j. before i j || linked i j) new
