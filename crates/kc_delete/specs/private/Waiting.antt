-- Vertices that wait, filed by level or in the open round.
use Rattle.std.specs.Prelude.{ℕ, ◌≤◌, ◌<◌, ◌≡◌, ◌⊎◌, Bool, true, false, List, [], length, get_or, set}
use Rattle.kc_graph.specs.Numbers.{has_number}
use Rattle.kc_graph.specs.Shape.{GraphShape}
use Rattle.kc_levels.specs.declared.profile.Profile.{Profile}
use Rattle.kc_levels.specs.LevelList.{MeetsLower}

-- v is filed under a level of at least `first`
pub record IsFiled (first : ℕ) (buckets : List (List ℕ)) (v : ℕ) : Type 0 where
  pub level : ℕ
  pub from : first ≤ level
  pub inside : level < length buckets
  pub there : has_number v (get_or buckets level []) ≡ true

-- each vertex that waits is in the round or filed under a level of at least `first`
--
-- There are lists below the level `first`, and all that is filed or in the round are vertices.
pub record AreFiled (first : ℕ) (buckets : List (List ℕ)) (round : List ℕ) (waits : List Bool) : Type 0 where
  pub start : first ≤ length buckets
  pub below : (level v : ℕ) → has_number v (get_or buckets level []) ≡ true → v < length waits
  pub inside : (v : ℕ) → has_number v round ≡ true → v < length waits
  pub filed : (v : ℕ) → get_or waits v false ≡ true → (has_number v round ≡ true) ⊎ IsFiled first buckets v

-- some of the vertices that waited wait no more: they have enough neighbours to stand on their levels
pub record IsSifted (p : Profile) (g : GraphShape) (y : List ℕ) (before after : List Bool) : Type 0 where
  pub sized : length after ≡ length before
  pub fewer : (v : ℕ) → get_or after v false ≡ true → get_or before v false ≡ true
  pub meets : (v : ℕ) → get_or before v false ≡ true → (get_or after v false ≡ true) ⊎ MeetsLower p g y v

-- v waited, and waits no more; some others wait no more either, which have enough neighbours to stand on their levels
pub record IsTaken (p : Profile) (g : GraphShape) (y : List ℕ) (before after : List Bool) (v : ℕ) : Type 0 where
  pub between : List Bool
  pub sifted : IsSifted p g y before between
  pub inside : v < length between
  pub waited : get_or between v false ≡ true
  pub taken : after ≡ set between v false
