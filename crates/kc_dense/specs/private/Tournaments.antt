-- Tournament trees in one list. Node 1 is the root; the children of node i stand at 2i and 2i + 1; the leaves are the
-- upper half.
use Rattle.std.specs.Prelude.{ℕ, ◌+◌, ◌*◌, ◌≤◌, ◌<◌, ◌≡◌, List, length, get_or, min}
use Rattle.std.specs.Int.{IsPowerOfTwo}
use Rattle.kc_dense.specs.declared.tournament.TheConstants.{GREATEST}

-- each node with children is the lesser of the two
abbrev pub IsPlayed : List ℕ → Type 0
IsPlayed nodes = (k : ℕ) → 1 ≤ k → 2 * k + 1 < length nodes → get_or nodes k 0 ≡ min (get_or nodes (2 * k) 0) (get_or nodes (2 * k + 1) 0)

-- a tree over `len` numbers, which are its first leaves; the other leaves have the greatest number
pub record IsTree (len width : ℕ) (nodes : List ℕ) : Type 0 where
  pub power : IsPowerOfTwo width
  pub sized : length nodes ≡ 2 * width
  pub room : len ≤ width
  pub played : IsPlayed nodes
  pub numbers : (i : ℕ) → i < len → get_or nodes (width + i) 0 ≤ GREATEST
  pub others : (i : ℕ) → len ≤ i → i < width → get_or nodes (width + i) 0 ≡ GREATEST

-- the node at this place is the first of the least nodes from one place up to another
pub record IsFirstLeastWithin (low high : ℕ) (nodes : List ℕ) (node : ℕ) : Type 0 where
  pub from : low ≤ node
  pub to : node < high
  pub least : (j : ℕ) → low ≤ j → j < high → get_or nodes node 0 ≤ get_or nodes j 0
  pub first : (j : ℕ) → low ≤ j → j < node → get_or nodes node 0 < get_or nodes j 0

-- the number at place i is the first of the least numbers of a list
pub record IsFirstLeast (xs : List ℕ) (i : ℕ) : Type 0 where
  pub inside : i < length xs
  pub least : (j : ℕ) → j < length xs → get_or xs i 0 ≤ get_or xs j 0
  pub first : (j : ℕ) → j < i → get_or xs i 0 < get_or xs j 0
