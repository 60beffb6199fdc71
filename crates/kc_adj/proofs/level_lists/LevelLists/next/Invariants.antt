use Rattle.std.proofs.Common.{ℕ, ◌≡◌, ◌≤◌, ◌<◌, ◌-◌, [], length, get_or}
use Rattle.kc_adj.proofs.level_lists.LevelLists.next.Given as goal

abbrev pub invariant-loop-level : goal.invariant-loop-level
invariant-loop-level g l = (l.from ≤ l.level) × ((k : ℕ) → l.from ≤ k → k < l.level → get_or l.self-inside.lists.items k [] ≡ [])

abbrev pub decreases-loop-level : goal.decreases-loop-level
decreases-loop-level g l = length l.self-inside.lists.items - l.level
