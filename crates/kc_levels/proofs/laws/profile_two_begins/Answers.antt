use Rattle.std.proofs.Common.{refl}
use Rattle.kc_levels.specs.Thresholds.{low, high, grow, lo, least, height, last_group}
use Rattle.kc_levels.proofs.laws.profile_two_begins.Goals as goal

pub returns : goal.returns
unfolding low high grow lo least height last_group
returns c = record { lows = refl; highs = refl; los = refl; ests = refl; grows = refl; heights = refl; last_groups = refl }
