use Rattle.std.proofs.Common.{◌≤◌, ◌≡◌, drop}
use Rattle.kc_dense.proofs.TournamentLemmas.{ArePlayedFrom}
use Rattle.kc_dense.proofs.tournament.play.Given as goal

abbrev pub invariant-loop-node : goal.invariant-loop-node
invariant-loop-node l = ArePlayedFrom l.node l.nodes × (l.node ≤ l.width) × (drop l.width l.nodes ≡ drop l.width l.initial.nodes)

abbrev pub decreases-loop-node : goal.decreases-loop-node
decreases-loop-node l = l.node
