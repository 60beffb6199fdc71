use Rattle.std.proofs.Common.{◌<◌, ◌≡◌, drop, set, length}
use Rattle.kc_dense.proofs.TournamentLemmas.{ArePlayedBut}
use Rattle.kc_dense.proofs.tournament.replay.Given as goal

abbrev pub invariant-loop-node : goal.invariant-loop-node
invariant-loop-node l = ArePlayedBut l.node l.nodes × (0 < l.node) × (l.node < length l.nodes) × (drop l.width l.nodes ≡ set (drop l.width l.fn.nodes) l.i l.number)

abbrev pub decreases-loop-node : goal.decreases-loop-node
decreases-loop-node l = l.node
