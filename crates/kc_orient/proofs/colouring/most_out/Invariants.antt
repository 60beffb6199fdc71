use Rattle.std.proofs.Common.{ℕ, ◌<◌, ◌≤◌, [], length, get_or}
use Rattle.kc_orient.proofs.colouring.most_out.Given as goal

abbrev pub invariant-loop-v : goal.invariant-loop-v
invariant-loop-v l = (u : ℕ) → u < l.v → length (get_or l.orientation.outs u []) ≤ l.most
