use Rattle.std.proofs.Common.{◌-◌}
use Rattle.kc_levels.proofs.TableLemmas.{IsLowTable}
use Rattle.kc_levels.proofs.thresholds.lows_to_last.Given as goal

abbrev pub invariant-loop-profile : goal.invariant-loop-profile
invariant-loop-profile l = IsLowTable l.profile l.n l.last l.lows.items

abbrev pub decreases-loop-profile : goal.decreases-loop-profile
decreases-loop-profile l = l.n - l.last
