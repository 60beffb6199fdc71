-- What a table of thresholds keeps.
use Rattle.std.specs.Prelude.{ℕ, ◌+◌, ◌≤◌, ◌<◌, ◌≡◌, List, length, get_or}
use Rattle.kc_graph.specs.declared.limits.TheConstants.{MAX_VERTICES}
use Rattle.kc_levels.specs.declared.profile.Profile.{Profile}
use Rattle.kc_levels.specs.Thresholds.{low, height, last_group}

-- the height of a band, and low up to the last band
pub record IsThresholdTable (p : Profile) (n tall : ℕ) (lows : List ℕ) : Type 0 where
  pub positive : 1 ≤ n
  pub small : n ≤ MAX_VERTICES
  pub tall_is : tall ≡ height p n
  pub sized : length lows ≡ 1 + last_group p n
  pub lows_are : (i : ℕ) → i < length lows → get_or lows i 0 ≡ low p i
