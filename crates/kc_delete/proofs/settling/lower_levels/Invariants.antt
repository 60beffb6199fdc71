use Rattle.std.proofs.Common.{◌≡◌}
use Rattle.kc_delete.specs.private.Settling.{IsSettling}
use Rattle.kc_delete.specs.private.Fallen.{AreFallen}
use Rattle.kc_delete.proofs.SettlingLemmas.{work_left}
use Rattle.kc_delete.proofs.settling.lower_levels.Given as goal

abbrev pub invariant-loop-v : goal.invariant-loop-v
invariant-loop-v g l =
    (l.adj.graph ≡ l.initial.adj.graph)
    × IsSettling l.th.profile l.initial.adj.graph l.initial.adj.levels l.adj.levels l.waiting
    × (l.fallen.before ≡ l.initial.adj.levels)
    × AreFallen l.initial.adj.levels l.adj.levels l.fallen.vertices.items

abbrev pub decreases-loop-v : goal.decreases-loop-v
decreases-loop-v g l = work_left l.initial.adj.graph l.adj.levels l.waiting
