-- The levels on which a vertex is held, up to the one on which it stands.
use Rattle.std.specs.Prelude.{ℕ, ◌≤◌, ◌<◌, get_or}
use Rattle.kc_levels.specs.LevelList.{IsHeld, IsDesired}
use Rattle.kc_adj.specs.declared.standing.Standing.{Standing}

-- the level on which the vertex stands
abbrev pub level_of : Standing → ℕ
level_of s = get_or s.adj.now.levels s.v 0

-- the vertex has enough neighbours from the level below on to stand on a level
abbrev pub IsHeldOn : Standing → ℕ → Type 0
IsHeldOn s level = IsHeld s.th.now.profile s.adj.now.graph s.adj.now.levels s.v level

-- the vertex isn't held on a level above `most`, up to its own
abbrev pub NotHeldAbove : Standing → ℕ → Type 0
NotHeldAbove s most = (k : ℕ) → most < k → k ≤ level_of s → ¬ (IsHeldOn s k)

-- a level is the greatest, up to its own, on which the vertex is held
abbrev pub Desires : Standing → ℕ → Type 0
Desires s level = IsDesired s.th.now.profile s.adj.now.graph s.adj.now.levels s.v level
