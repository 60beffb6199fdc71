use Rattle.std.proofs.Common.{◌≤◌, ◌-◌}
use Rattle.kc_adj.specs.private.Standing.{level_of, IsHeldOn, NotHeldAbove}
use Rattle.kc_adj.proofs.desired.desired_below.Given as goal

abbrev pub invariant-loop-least : goal.invariant-loop-least
invariant-loop-least l = (l.least ≤ l.most) × (l.most ≤ level_of l.at) × IsHeldOn l.at l.least × NotHeldAbove l.at l.most

abbrev pub decreases-loop-least : goal.decreases-loop-least
decreases-loop-least l = l.most - l.least
