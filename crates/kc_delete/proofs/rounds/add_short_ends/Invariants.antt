use Rattle.std.proofs.Common.{ℕ, ◌≡◌, ◌<◌, length, get_or}
use Rattle.kc_delete.specs.private.Settling.{WaitsOrMeets}
use Rattle.kc_delete.proofs.rounds.add_short_ends.Given as goal

abbrev pub invariant-loop-e : goal.invariant-loop-e
invariant-loop-e l =
    (length l.waiting ≡ l.capped.adj.now.graph.vertices)
    × ((k : ℕ) → k < l.e-index → WaitsOrMeets l.capped.th.now.profile l.capped.adj.now.graph l.capped.adj.now.levels l.waiting (get_or l.removed k (0, 0)).0
    × WaitsOrMeets l.capped.th.now.profile l.capped.adj.now.graph l.capped.adj.now.levels l.waiting (get_or l.removed k (0, 0)).1)
