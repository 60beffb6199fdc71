-- Edges seen from their ends: the half-edge (v, w) puts w into the row of v.
use Rattle.std.specs.Prelude.{ℕ, ◌+◌, ◌<◌, ◌≤◌, ◌≡◌, ◌==◌, Bool, true, false, not, ◌||◌, ◌&&◌, List, [], ◌∷◌, length, get_or, All, ◌⊎◌, Result, OnOk}
use Rattle.std.specs.Result.{is_ok}
use Rattle.kc_graph.specs.Numbers.{has_number, RisesFrom}
use Rattle.kc_graph.specs.Shape.{Pair, has_edge}
use Rattle.kc_graph.specs.declared.sharing.Change.{Change}
use Rattle.kc_graph.specs.declared.sharing.Change.TheVariants.{Give, Take}

-- whether x is the second number of a pair of the list
abbrev pub has_second : ℕ → List Pair → Bool
has_second x [] = false
has_second x (h ∷ hs) = (h.1 == x) || has_second x hs

-- each second number is below the next
abbrev pub SecondsRise : List Pair → Type 0
SecondsRise hs = (k : ℕ) → k + 1 < length hs → (get_or hs k (0, 0)).1 < (get_or hs (k + 1) (0, 0)).1

-- all pairs have one first number
abbrev pub AreOf : ℕ → List Pair → Type 0
AreOf v hs = (k : ℕ) → k < length hs → (get_or hs k (0, 0)).0 ≡ v

-- all vertices of half-edges have rows, which begin with that of `first` and follow one another
abbrev pub AreInside : ℕ → ℕ → List Pair → Type 0
AreInside first rows hs = (v x : ℕ) → has_edge (v, x) hs ≡ true → (first ≤ v) × (v < first + rows)

-- the vertex of the first half-edge of one of two lists
abbrev pub IsFirst : ℕ → List Pair → List Pair → Type 0
IsFirst v gs hs = ((0 < length gs) × ((get_or gs 0 (0, 0)).0 ≡ v)) ⊎ ((0 < length hs) × ((get_or hs 0 (0, 0)).0 ≡ v))

-- some half-edges of a vertex, by rising second numbers, and those that are left
pub record IsRun (halves : List Pair) (v : ℕ) (run later : List Pair) : Type 0 where
  pub other : ℕ
  pub some : has_edge (v, other) halves ≡ true
  pub of : AreOf v run
  pub rising : SecondsRise run
  pub all : (e : Pair) → has_edge e halves ≡ has_edge e run || has_edge e later
  pub fewer : length later < length halves

-- half-edges that are cut in two parts: those of vertices below v, and those of v or greater ones
--
-- One of them is of v.
pub record IsCut (halves : List Pair) (v : ℕ) (low high : List Pair) : Type 0 where
  pub other : ℕ
  pub some : has_edge (v, other) halves ≡ true
  pub below : All (λ h. h.0 < v) low
  pub from : All (λ h. v ≤ h.0) high
  pub all : (e : Pair) → has_edge e halves ≡ has_edge e low || has_edge e high

-- the rows, from that of `first` on, after the half-edges came in
pub record AreGiven (first : ℕ) (old new : List (List ℕ)) (halves : List Pair) : Type 0 where
  pub sized : length new ≡ length old
  pub rise : (v : ℕ) → v < length old → RisesFrom 0 (get_or old v []) → RisesFrom 0 (get_or new v [])
  pub has : (v x : ℕ) → v < length old → has_number x (get_or new v []) ≡ has_number x (get_or old v []) || has_edge (first + v, x) halves

-- the rows after some of the half-edges came in
pub record AreGivenSome (first : ℕ) (old new : List (List ℕ)) (halves : List Pair) : Type 0 where
  pub sized : length new ≡ length old
  pub rise : (v : ℕ) → v < length old → RisesFrom 0 (get_or old v []) → RisesFrom 0 (get_or new v [])
  pub kept : (v x : ℕ) → v < length old → has_number x (get_or old v []) ≡ true → has_number x (get_or new v []) ≡ true
  pub only : (v x : ℕ) → v < length old → has_number x (get_or new v []) ≡ true → has_number x (get_or old v []) || has_edge (first + v, x) halves ≡ true

-- the rows after the half-edges were taken out
pub record AreTaken (first : ℕ) (old new : List (List ℕ)) (halves : List Pair) : Type 0 where
  pub sized : length new ≡ length old
  pub rise : (v : ℕ) → v < length old → RisesFrom 0 (get_or old v []) → RisesFrom 0 (get_or new v [])
  pub has : (v x : ℕ) → v < length old → has_number x (get_or new v []) ≡ not (has_edge (first + v, x) halves) && has_number x (get_or old v [])

-- the rows after the half-edges came in or were taken out
--
-- If they come in and memory runs out, some of them came in. Taking them out never fails.
abbrev pub AreChanged : {A E : Type 0} → Change → Result A E → ℕ → List (List ℕ) → List (List ℕ) → List Pair → Type 0
AreChanged Give result first old new halves = OnOk result (AreGiven first old new halves) × AreGivenSome first old new halves
AreChanged Take result first old new halves = (is_ok result ≡ true) × AreTaken first old new halves
