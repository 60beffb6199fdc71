use Rattle.std.proofs.Common.{◌≡◌, map, take}
use Rattle.kc_levels.specs.Moved.{move_of}
use Rattle.kc_levels.proofs.moved.moves_in_order.Given as goal

abbrev pub invariant-loop-v : goal.invariant-loop-v
invariant-loop-v l = l.items.items ≡ map (move_of l.before l.after) (take l.v-index l.vertices)
