use Rattle.std.proofs.Common.{◌≡◌, take}
use Rattle.kc_session.specs.Ended.{greatest}
use Rattle.kc_session.proofs.ended.greatest.Given as goal

abbrev pub invariant-loop-level : goal.invariant-loop-level
invariant-loop-level l = l.top ≡ greatest (take l.level-index l.levels)
