use Rattle.std.proofs.Common.{◌-◌}
use Rattle.kc_dense.proofs.TournamentLemmas.{IsDescent}
use Rattle.kc_dense.proofs.tournament.Tournament.first_least.Given as goal

abbrev pub invariant-loop-node : goal.invariant-loop-node
invariant-loop-node l = IsDescent l.self-inside.width l.self-inside.nodes.items l.node

abbrev pub decreases-loop-node : goal.decreases-loop-node
decreases-loop-node l = l.self-inside.width - l.node
