use Rattle.std.proofs.Common.{◌≡◌, take}
use Rattle.std.specs.List.{flat_map}
use Rattle.kc_insert.specs.Ranges.{Part}
use Rattle.kc_insert.proofs.ranges.Ranges.risen.Given as goal

abbrev pub invariant-loop-range : goal.invariant-loop-range
invariant-loop-range l = l.all.items ≡ flat_map (λ (p : Part). p.risen) (take l.range-index l.items)
