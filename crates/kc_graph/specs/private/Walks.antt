-- What a walk over the sorted keys of a batch finds.
use Rattle.std.specs.Prelude.{ℕ, ◌+◌, ◌<◌, ◌≤◌, ◌≡◌, true, cond, List, [], ◌∷◌, ◌++◌, length, map, All}
use Rattle.kc_graph.specs.declared.keys.Key.{Key}
use Rattle.kc_graph.specs.declared.cleaning.Cleaned.{Cleaned}
use Rattle.kc_graph.specs.declared.limits.TheConstants.{MAX_ITEMS, MAX_VERTICES}
use Rattle.kc_graph.specs.Shape.{GraphShape, Pair}
use Rattle.kc_graph.specs.Keys.{decided}
use Rattle.kc_graph.specs.private.Keys.{is_last_of_pair, repeated, unpacked}

-- the net effect of no items
abbrev pub no_effect : Cleaned
no_effect = record { removed = []; added = []; loops = 0; repeats = 0; idle = 0 }

-- the net effect after the keys of a list in which those of one pair stand together
abbrev pub walked : List Pair → List Key → Cleaned → Cleaned
walked edges [] c = c
walked edges (k ∷ later) c = walked edges later (cond (is_last_of_pair k later) (decided edges k c) (repeated c))

-- the net effects of some items, and of others that touch other pairs, as one
abbrev pub followed : Cleaned → Cleaned → Cleaned
followed c d = record { removed = c.removed ++ d.removed; added = c.added ++ d.added; loops = c.loops + d.loops; repeats = c.repeats + d.repeats; idle = c.idle + d.idle }

-- the pair of the key is in order, and its vertices are below n
abbrev pub IsKeyInside : ℕ → Key → Type 0
IsKeyInside n k = (k.a < k.b) × (k.b < n)

-- the net effect of the keys that have these numbers
abbrev pub net_of : GraphShape → ℕ → List ℕ → Cleaned
net_of g bits xs = walked g.edges (map (unpacked bits) xs) no_effect

-- the numbers are of keys with vertices below n, and are few
pub record AreKeys (n bits : ℕ) (xs : List ℕ) : Type 0 where
  pub fits : bits ≤ 24
  pub small : n ≤ MAX_VERTICES
  pub few : length xs ≤ MAX_ITEMS
  pub inside : All (IsKeyInside n) (map (unpacked bits) xs)

-- the numbers of keys, cut in two where a pair ends
pub record IsPairCut (xs front back : List ℕ) : Type 0 where
  pub init : List ℕ
  pub last : ℕ
  pub parts : xs ≡ front ++ back
  pub ends : front ≡ init ++ last ∷ []
  pub apart : (bits : ℕ) → is_last_of_pair (unpacked bits last) (map (unpacked bits) back) ≡ true
