use Rattle.std.proofs.Common.{ℕ, ◌≡◌, ◌<◌, length, get_or}
use Rattle.kc_delete.specs.private.Settling.{StillWait, IsLookedAt}
use Rattle.kc_delete.proofs.settling.add_short_neighbours.Given as goal

abbrev pub invariant-loop-w : goal.invariant-loop-w
invariant-loop-w l =
    (length l.waiting ≡ l.capped.adj.now.graph.vertices)
    × StillWait l.initial.waiting l.waiting
    × ((k : ℕ) → k < l.w-index → IsLookedAt l.capped.th.now.profile l.capped.adj.now.graph l.from l.to l.capped.adj.now.levels l.waiting (get_or l.w-items k 0))
