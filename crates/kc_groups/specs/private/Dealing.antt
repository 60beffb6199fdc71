-- How moves and edges are dealt to the entries of their labels.
use Rattle.std.specs.Prelude.{ℕ, ◌≤◌, ◌<◌, ◌≡◌, ◌==◌, ◌&&◌, ◌⊎◌, Bool, cond, List, [], Some, All, length, get_or, filter}
use Rattle.kc_graph.specs.Shape.{Pair}
use Rattle.kc_levels.specs.declared.moves.Move.{Move}
use Rattle.kc_history.specs.declared.entries.Entry.{Entry}
use Rattle.kc_groups.specs.Entries.{ends_at}

-- an entry of the label l without moves and edges
abbrev pub empty_entry : ℕ → Bool → ℕ → Entry
empty_entry phase add l = record { phase = phase; label = Some l; add = add; moves = []; edges = [] }

-- for each vertex below k, the place of its label in the list of the labels below k; the other vertices still have
-- their labels
pub record ArePlaces (n : ℕ) (labels roots places : List ℕ) (k : ℕ) : Type 0 where
  pub sized : length places ≡ n
  pub few : length roots ≤ k
  pub low : (i : ℕ) → i < length roots → get_or roots i 0 < k
  pub at : (v : ℕ) → v < k → get_or labels v 0 < n → (get_or places v 0 < length roots) × (get_or roots (get_or places v 0) 0 ≡ get_or labels v 0)
  pub none : (v : ℕ) → v < k → n ≤ get_or labels v 0 → get_or places v 0 ≡ n
  pub back : (i : ℕ) → i < length roots → get_or places (get_or roots i 0) 0 ≡ i
  pub rest : (v : ℕ) → k ≤ v → v < n → get_or places v 0 ≡ get_or labels v 0

-- each entry changed by f, which gets its place in the list
pub record AreDealt (f : ℕ → Entry → Entry) (old new : List Entry) : Type 0 where
  pub sized : length new ≡ length old
  pub each : (p : ℕ) (d : Entry) → p < length old → get_or new p d ≡ f p (get_or old p d)

-- each move of the entries is of a vertex below n
abbrev pub AreMovesBelow : ℕ → List Entry → Type 0
AreMovesBelow n entries = All (λ (e : Entry). All (λ (m : Move). m.vertex < n) e.moves) entries

-- the entry with the moves of the vertices whose place is p
abbrev pub with_moves : List ℕ → List Move → ℕ → Entry → Entry
with_moves places ms p e = record e { moves = filter (λ (m : Move). get_or places m.vertex 0 == p) ms }

-- the entry with the edges that have an end whose place is p
abbrev pub with_edges : List ℕ → List Pair → ℕ → Entry → Entry
with_edges places edges p e = record e { edges = filter (ends_at places p) edges }

-- an edge of which each end has one of m places, or n for none
--
-- If both ends have a place, they have the same one.
pub record IsPlacedEdge (n m : ℕ) (places : List ℕ) (e : Pair) : Type 0 where
  pub order : e.0 < e.1
  pub inside : e.1 < n
  pub first : (get_or places e.0 0 < m) ⊎ (get_or places e.0 0 ≡ n)
  pub second : (get_or places e.1 0 < m) ⊎ (get_or places e.1 0 ≡ n)
  pub one : get_or places e.0 0 < n → get_or places e.1 0 < n → get_or places e.1 0 ≡ get_or places e.0 0

-- the place of an end that has one, if an end does
abbrev pub edge_place : ℕ → List ℕ → Pair → ℕ
edge_place n places e = cond (get_or places e.0 0 == n) (get_or places e.1 0) (get_or places e.0 0)

-- no end of the edge has a place
abbrev pub is_unplaced : ℕ → List ℕ → Pair → Bool
is_unplaced n places e = (get_or places e.0 0 == n) && (get_or places e.1 0 == n)
