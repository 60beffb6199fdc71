use Rattle.std.proofs.Common.{ℕ, ◌≡◌, ◌≤◌, ◌<◌, ◌-◌, [], length, get_or}
use Rattle.kc_adj.proofs.level_lists.LevelLists.clear.Given as goal

abbrev pub invariant-loop-level : goal.invariant-loop-level
invariant-loop-level g l = (length l.self ≡ length l.initial.self) × (l.level ≤ length l.self) × ((k : ℕ) → k < l.level → get_or l.self k [] ≡ [])

abbrev pub decreases-loop-level : goal.decreases-loop-level
decreases-loop-level g l = length l.self - l.level
